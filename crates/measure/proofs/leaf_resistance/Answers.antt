-- The literals as the code writes them are the definition's.
use Rattle.std.proofs.Common.{◌≡◌, ℕ, pos, sym, refl, ap, ◌∙◌}
use lib.Ieee.{Float, binary64, of_bits, of_int, mul, div}
use Rattle.circuit.specs.SetUp.{leaf_resistance}
use Rattle.circuit.specs.declared.Element.TheVariants.{Capacitor, Inductor}
use Rattle.measure.proofs.leaf_resistance.Goals as goal

abbrev one64 : Float
one64 = of_bits binary64 0x3ff0_0000_0000_0000

abbrev two64 : Float
two64 = of_bits binary64 0x4000_0000_0000_0000

capacitor_port : (c : Float) (n : ℕ)
    → div binary64 one64 (mul binary64 (mul binary64 two64 c) (of_int binary64 (pos n))) ≡ leaf_resistance n (Capacitor c)
unfolding leaf_resistance of_bits of_int
capacitor_port c n = refl

inductor_port : (l : Float) (n : ℕ) → mul binary64 (mul binary64 two64 l) (of_int binary64 (pos n)) ≡ leaf_resistance n (Inductor l)
unfolding leaf_resistance of_bits of_int
inductor_port l n = refl

pub returns-in-Capacitor : goal.returns-in-Capacitor
returns-in-Capacitor c = capacitor_port c.in-Capacitor.farads c.args.rate ∙ ap (leaf_resistance c.args.rate) (sym c.in-Capacitor.is)

pub returns-in-Inductor : goal.returns-in-Inductor
returns-in-Inductor c = inductor_port c.in-Inductor.henries c.args.rate ∙ ap (leaf_resistance c.args.rate) (sym c.in-Inductor.is)
