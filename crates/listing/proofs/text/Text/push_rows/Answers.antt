-- A turn writes the line of row j.
use Rattle.std.proofs.Common.{◌++◌, sym, ap, ◌∙◌, append-nil, arith}
use Rattle.listing.proofs.Rows.{lines_none, lines_more}
use Rattle.listing.proofs.text.Text.push_rows.Goals as goal

pub loop-j-init : goal.loop-j-init
loop-j-init c =
    let a = c.args in
    record { inside = omega arith; bytes = sym (ap (λ t. a.self.now ++ t) (lines_none a.r.now) ∙ append-nil a.self.now); size = omega arith }

pub loop-j-preserved : goal.loop-j-preserved
loop-j-preserved c =
    let at = c.loop-j in
    record {
      inside = omega arith;
      bytes = lines_more c.args.r.now c.requires.accepted c.requires.rows at.j _ (omega arith) _ at.invariant.bytes c.push_row.ensures.bytes;
      size = omega (arith, c.push_row.ensures.size, at.invariant.size);
    }
