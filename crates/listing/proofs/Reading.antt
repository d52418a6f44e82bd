-- Which lines a file's listing has, by what opening it answers, and where they stand after `list`.
use Prim.Native.Nat.{ℕ}
use native.Mathlib.Omega.{arith}
use lib.ListN.{length, drop}
use borrow.Author.Tests.{ne_eqb, eq-eqb}
use mathlib.Core.Path.{◌≡◌, sym, ap, ◌∙◌}
use mathlib.Core.List.{List, ◌++◌}
use Rattle.std.specs.Prelude.{Ok, Err}
use Rattle.circuit.specs.Numbers.{handed, told}
use Rattle.circuit.specs.SetUp.{set_up_report}
use Rattle.circuit.specs.File.{read_report}
use Rattle.circuit.specs.Listing.{accepted_lines, refused_line, listing}
use Rattle.circuit.specs.Promises.{Opens, Lists}
use Rattle.circuit.specs.declared.Listed.{Listed}
use Rattle.circuit.specs.declared.Opened.{Opened}
use Rattle.circuit.specs.declared.Refusal.{Refusal}
use Rattle.laws.proofs.Trying.{told_above}
use Rattle.file.proofs.Reported.{read_judged, read_on, record_read}

module _ (s : List ℕ) where
  module _ {o : Opened} (h : Opens s (Ok o)) where
    none : (read_report s).number ≡ 0
    none = ap (λ m. m.number) (sym h.number)

    -- a file that is opened holds a record that set-up accepts
    pub set_up_accepts : (set_up_report o.circuit).number ≡ 0
    set_up_accepts = rw (h.circuit, record_read s none) (ap (λ n. n.number) (sym (read_on s (read_judged s none))) ∙ none)

    pub listing_accepted : accepted_lines o.circuit ≡ listing s
    unfolding listing
    listing_accepted = rw (h.circuit, record_read s none, eq-eqb _ _ none)

  pub listing_refused : {e : Refusal} → Opens s (Err e) → refused_line (told e) ≡ listing s
  unfolding listing
  listing_refused {e} h = rw (← h.number, ne_eqb (told e).number 0 (λ z. let above = told_above e in omega arith))

-- a text that is the listing, at the start of the buffer
pub lists : {bytes before after text : List ℕ} {l : Listed} → handed l.answer ≡ read_report bytes → text ≡ listing bytes → l.length ≡ length text
    → after ≡ text ++ drop (length text) before → Lists bytes before l after
lists a e n p = record { number = a; size = n ∙ ap length e; text = rw e at p }
