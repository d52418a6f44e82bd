-- A turn enters row i, where it is an adaptor.
use Rattle.std.proofs.Common.{◌≡◌, ℕ, ◌-◌, ◌<◌, List, length, get_or, ℤ, pos, w64, to_z, sym, ap, ◌∙◌, subst, arith, rules}
use Rattle.std.proofs.lemmas.List.{get_or_default}
use Rattle.whole.specs.Signed.{to_z-u32}
use Rattle.circuit.specs.Record.{row_limit, part_at}
use Rattle.circuit.specs.SetUp.{parts, nothing}
use Rattle.circuit.specs.declared.Prepared.{Prepared}
use Rattle.circuit.specs.declared.Row.{Row}
use Rattle.circuit.specs.declared.Part.TheVariants.{Adaptor}
use Rattle.laws.specs.Accepted.{adaptor_limit}
use Rattle.engine.specs.declared.plan.Joint.{Joint}
use Rattle.engine.specs.Plan.{floor, slot_of}
use Rattle.engine.proofs.Entering.{Entered, high, lower, passed_over, entered_more, all_staged}
use Rattle.engine.proofs.plan.joints_of.Goals as goal
use Rattle.engine.proofs.plan.joints_of.Goals.{After-slot_at, in-Adaptor, in_default}

-- an adaptor's place is in range, as are its children
module _ (c : After-slot_at) where
  part : part_at c.args.r.now c.loop-i.i ≡ Adaptor c.in-Adaptor.a
  part = ap (λ (w : Row). w.part) (sym c.row.ensures.value) ∙ c.in-Adaptor.is

  slot : c.slot_at.result ≡ slot_of c.args.r.now c.loop-i.i
  slot = c.slot_at.ensures ∙ c.requires.seated.slot c.loop-i.i (omega arith)

  ready : (floor < c.slot_at.result) × (c.slot_at.result - floor - 1 < adaptor_limit) × (c.in-Adaptor.a.first < row_limit) × (c.in-Adaptor.a.second < row_limit)
  ready =
      let h = high c.requires c.loop-i.i c.in-Adaptor.a (omega arith) part in
      let under = lower c.requires c.loop-i.i c.in-Adaptor.a part in
      let short = c.requires.seated.accepted.short in
      (omega (arith, slot), omega (arith, slot), omega arith, omega arith)

pub overflow_sub-k : goal.overflow_sub-k
overflow_sub-k c = omega (arith, ready (goal.at.overflow_sub-k c).After-slot_at)

pub overflow_sub-k-in-Adaptor : goal.overflow_sub-k-in-Adaptor
overflow_sub-k-in-Adaptor c = omega (arith, ready (goal.at.overflow_sub-k-in-Adaptor c).After-slot_at)

pub bounds-slots-a : goal.bounds-slots-a
bounds-slots-a c = (ready (goal.at.bounds-slots-a c).After-slot_at).2

pub bounds-slots-a-in-Adaptor : goal.bounds-slots-a-in-Adaptor
bounds-slots-a-in-Adaptor c = (ready (goal.at.bounds-slots-a-in-Adaptor c).After-slot_at).3

pub bounds-joints-k : goal.bounds-joints-k
bounds-joints-k c = (ready (goal.at.bounds-joints-k c).After-slot_at).1

-- a ratio, as it is read
weight : (prepared : List Prepared) (i : ℕ) (d : Prepared) {ratio : ℕ} → i < length prepared → (get_or prepared i nothing).ratio ≡ ratio → ratio < parts
    → to_z w64 (get_or prepared i d).ratio ≡ pos ratio
weight prepared i d inside e l = rw (get_or_default prepared i d nothing inside, e) (to_z-u32 _ (record { fits = omega arith }))

pub loop-i-preserved : goal.loop-i-preserved
loop-i-preserved c =
    let l = c.loop-i.invariant in
    let part = ap (λ (w : Row). w.part) (sym c.row.ensures.value) in
    elim c.match-row.branch [
      | in-Adaptor w ↦
          let h = c.requires.seated in
          let a = w.in-Adaptor.a in
          let inside : c.loop-i.i < c.args.r.now.count = omega arith in
          let e = part ∙ w.in-Adaptor.is in
          let under = lower c.requires c.loop-i.i a e in
          let place = ap (λ s. s - floor - 1) (w.slot_at.ensures ∙ h.slot c.loop-i.i inside) in
          let entry : ℤ → Joint =
          λ x. record { join = a.join; first = slot_of c.args.r.now a.first; second = slot_of c.args.r.now a.second; ratio = x } in
          let size : c.loop-i.i < length c.args.prepared.now = search (rules, arith) in
          rw w.joints-is
          (entered_more c.requires a inside e place
          (rw (h.slot a.first (omega arith), h.slot a.second (omega arith))
          (ap entry (weight _ c.loop-i.i _ size (c.requires.ratio c.loop-i.i inside) (h.accepted.ratio c.loop-i.i)))) l)
      | in_default w ↦ rw w.joints-is (passed_over (λ a e. w.in_default.not-Adaptor a (sym part ∙ e)) l)
    ]

pub returns : goal.returns
returns c =
    let r = c.args.r.now in
    let done : c.loop-i.i ≡ r.count = omega arith in
    all_staged c.requires (subst (λ n. Entered r n c.loop-i.joints) done c.loop-i.invariant)
