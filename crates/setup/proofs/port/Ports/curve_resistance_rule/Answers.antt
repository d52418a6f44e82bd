-- The top's filled row has the top's resistance.
use Rattle.std.proofs.Common.{◌≡◌, ◌-◌, sym, ap, ◌∙◌, Bool, arith}
use Rattle.circuit.specs.Numbers.{unless, told}
use Rattle.circuit.specs.Record.{last_row}
use Rattle.circuit.specs.SetUp.{fits, resistance_at, curve_resistance_rule}
use Rattle.laws.specs.Numbered.{numbered}
use Rattle.setup.proofs.Judged.{record_shows}
use Rattle.setup.proofs.Rows.{resistance_at_lem}
use Rattle.setup.proofs.port.Ports.curve_resistance_rule.Goals as goal
use Rattle.setup.proofs.port.Ports.curve_resistance_rule.Goals.{After-fits_top}

tested : (c : After-fits_top) → c.fits_top.result ≡ fits c.args.self.r.now.resistance (resistance_at c.args.self.r.now (last_row c.args.self.r.now))
unfolding last_row
tested c =
    let r = c.args.self.r.now in
    let p = c.args.self in
    let known = record_shows r p.sized p.passed in
    c.fits_top.ensures ∙ ap (fits r.resistance) (resistance_at_lem r known _ p.filled (r.count - 1) (omega (arith, known.formed.short)))

pub overflow_sub-top : goal.overflow_sub-top
overflow_sub-top c =
    let p = c.args.self in
    omega (arith, (record_shows p.r.now p.sized p.passed).formed.some)

pub bounds-self-top : goal.bounds-self-top
bounds-self-top c =
    let p = c.args.self in
    let known = record_shows p.r.now p.sized p.passed in
    omega (arith, known.formed.some, known.formed.short)

pub returns-then-fits_top : goal.returns-then-fits_top
unfolding curve_resistance_rule
returns-then-fits_top c =
    ap (λ (b : Bool). numbered 11 (unless b 0)) (sym c.if-fits_top.true ∙ tested (goal.at.returns-then-fits_top c).After-fits_top)

pub returns-else-fits_top : goal.returns-else-fits_top
unfolding told curve_resistance_rule
returns-else-fits_top c =
    ap (λ (b : Bool). numbered 11 (unless b 0)) (sym c.if-fits_top.false ∙ tested (goal.at.returns-else-fits_top c).After-fits_top)
