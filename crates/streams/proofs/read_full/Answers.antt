-- What a turn reads stands after what was read before, and is what the reader gave next.
use Rattle.std.proofs.Common.{◌≡◌, ℕ, ◌+◌, ◌≤◌, List, ◌++◌, length, take, sym, ap, ◌∙◌, subst, length-take-le, rules}
use Rattle.std.proofs.Math.Seq.{take-append-add}
use Rattle.std.proofs.lemmas.List.{take-append-le}
use Rattle.std.proofs.KnownBytes.{Consumes-trans}
use Rattle.std.specs.Io.KnownBytes.{Consumes}
use borrow.Rule.Slice.PartMut.{put_mid, post_of}
use Rattle.streams.proofs.read_full.Goals as goal

-- the front of a buffer whose part from k on was read anew
front : (k m n : ℕ) (xs ys : List ℕ) → k ≤ length xs → n ≤ length ys → take (k + n) (put_mid k m xs ys) ≡ take k xs ++ take n ys
front k m n xs ys h l =
    let rest = post_of k m xs in
    ap (λ i. take (i + n) (take k xs ++ (ys ++ rest))) (sym (length-take-le k xs h)) ∙ take-append-add (take k xs) (ys ++ rest) n
    ∙ ap (λ t. take k xs ++ t) (take-append-le n ys rest l)

pub loop-count-preserved : goal.loop-count-preserved
loop-count-preserved g c =
    let at = c.loop-count in
    let read = c.in_ok-more in
    record {
      inside = search rules;
      taken =
          subst (Consumes _ _) (sym (front at.count _ read.more at.bytes c.read.new.buf at.invariant.inside read.ensures.bound.0))
          (Consumes-trans _ _ _ _ _ at.invariant.taken read.ensures.bytes.0);
      size = search rules;
    }
