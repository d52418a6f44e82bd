-- A turn gives row i the next slot of its role.
use Rattle.std.proofs.Common.{◌≡◌, ◌<◌, refl, ap, ◌∙◌, arith}
use Rattle.circuit.specs.Record.{part_at}
use Rattle.circuit.specs.declared.Row.{Row}
use Rattle.parts.specs.Parts.{role_of}
use Rattle.engine.proofs.Giving.{given_start, given_more, next_small}
use Rattle.engine.proofs.Ranks.{rank_below}
use Rattle.engine.proofs.Roles.{role}
use Rattle.engine.proofs.plan.slots_of.Goals as goal
use Rattle.engine.proofs.plan.slots_of.Goals.{After-index-role}

pub overflow_cast-next : goal.overflow_cast-next
overflow_cast-next c = let r = c.args.r.now in omega (arith, rank_below r.rows 0 r.count, c.requires)

pub loop-i-init : goal.loop-i-init
loop-i-init c = given_start c.args.r.now.rows c.args.r.now.count c.requires.1 refl

is : (c : After-index-role) → c.index-role.result ≡ role_of (part_at c.args.r.now c.loop-i.i)
is c = c.index-role.ensures ∙ c.role_of.ensures ∙ ap (λ (w : Row). role_of w.part) c.row.ensures.value

five : (c : After-index-role) → c.index-role.result < 5
five c = rw (is c) (role (part_at c.args.r.now c.loop-i.i)).few

pub bounds-next-role : goal.bounds-next-role
bounds-next-role c = five c

pub bounds-next-role-in-loop-i : goal.bounds-next-role-in-loop-i
bounds-next-role-in-loop-i c = five c

pub bounds-next-role-in-loop-i-2 : goal.bounds-next-role-in-loop-i-2
bounds-next-role-in-loop-i-2 c = five c

pub overflow_add-next-in-loop-i : goal.overflow_add-next-in-loop-i
overflow_add-next-in-loop-i c =
    let r = c.args.r.now in
    omega (arith, next_small r.rows r.count c.loop-i.invariant (omega arith) (is c) (omega arith))

pub loop-i-preserved : goal.loop-i-preserved
loop-i-preserved c =
    let r = c.args.r.now in
    given_more r.rows r.count c.loop-i.invariant (omega arith) (is c)
