-- It goes as the definition of `digits` does: no digit, one digit, or one after all those before it.
use Rattle.std.proofs.Common.{◌<◌, ◌++◌, sym, ap, ◌∙◌, append-nil, append_assoc, arith}
use Rattle.listing.proofs.Digits.{last, digits_none, digits_one, digits_more}
use Rattle.listing.proofs.text.Text.+push_digits.Goals as goal
use Rattle.listing.proofs.text.Text.+push_digits.Goals.{then-n-ge10, else-n-ge10}

pub returns-then-k-eq0-clause-bytes : goal.returns-then-k-eq0-clause-bytes
returns-then-k-eq0-clause-bytes t c =
    let a = c.args in
    sym (ap (λ s. a.self.now ++ s) (digits_none a.n a.k c.if-k-eq0.true) ∙ append-nil a.self.now)

pub returns-clause-bytes : goal.returns-clause-bytes
returns-clause-bytes t c =
    let a = c.args in
    let some : 0 < a.k = omega arith in
    let before = a.self.now in
    elim c.if-n-ge10.branch [
      | then-n-ge10 w ↦
          c.push_digit.ensures ∙ ap (λ s. s ++ last a.n) (w.self-is ∙ w.push_digits.ensures.bytes) ∙ append_assoc before _ (last a.n)
          ∙ ap (λ s. before ++ s) (sym (digits_more a.n a.k some w.if-n-ge10.true))
      | else-n-ge10 w ↦
          c.push_digit.ensures ∙ ap (λ s. s ++ last a.n) w.self-is ∙ ap (λ s. before ++ s) (sym (digits_one a.n a.k some w.if-n-ge10.false))
    ]
