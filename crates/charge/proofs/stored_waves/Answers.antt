-- What is found is the lowest row at fault.
use Rattle.std.proofs.Common.{not, rules, arith}
use Rattle.std.proofs.lemmas.Iterator.{first_from_Range}
use Rattle.circuit.specs.Record.{part_at}
use Rattle.circuit.specs.Run.{sound_wave, stored_waves_rule}
use Rattle.circuit.specs.Sample.{stored_at}
use Rattle.circuit.specs.Numbers.{told}
use Rattle.laws.specs.Accepted.{Sized}
use Rattle.laws.proofs.Ranges.{found, none}
use Rattle.charge.proofs.stored_waves.Goals as goal

pub returns-in-Some-clause-told : goal.returns-in-Some-clause-told
unfolding told stored_waves_rule
returns-in-Some-clause-told c =
    found (λ j. not (sound_wave (part_at c.args.r.now j) (stored_at c.args.state.now.waves j))) 12 _ c.find.ensures.ran (λ j b q k. search rules) c.in-Some.is

pub returns-in-None-clause-told : goal.returns-in-None-clause-told
unfolding stored_waves_rule
returns-in-None-clause-told c =
    none (λ j. not (sound_wave (part_at c.args.r.now j) (stored_at c.args.state.now.waves j))) 12 _ c.find.ensures.ran (λ j b q k. search rules) c.in-None.is

-- a look at a row tells how many there are
pub returns-in-None-clause-sized : goal.returns-in-None-clause-sized
returns-in-None-clause-sized c =
    let r = c.args.r.now in
    let h = first_from_Range _ _ _ c.find.result (λ x. Sized r) (λ x. Sized r) c.find.ensures.ran
    (λ x q k. search rules) (λ x q k. search rules) in
    (rw c.in-None.is at h) 0 (omega arith) (omega arith)

pub returns-in-Some-clause-sized : goal.returns-in-Some-clause-sized
returns-in-Some-clause-sized c =
    let r = c.args.r.now in
    let h = first_from_Range _ _ _ c.find.result (λ x. Sized r) (λ x. Sized r) c.find.ensures.ran
    (λ x q k. search rules) (λ x q k. search rules) in
    (rw c.in-Some.is at h).2
