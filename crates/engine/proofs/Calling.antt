-- What a run and a raw run share: what 3 to 12 leave of a call, what the samples need of a circuit that is laid out and loaded, and what is
-- handed back of them.
use Prim.Native.Nat.{ℕ, ◌/◌, ◌<◌}
use mathlib.Core.Path.{◌≡◌, refl, sym, ap, ◌∙◌}
use mathlib.Core.List.{List}
use lib.IntN.{ℤ}
use lib.ListN.{length}
use Rattle.std.specs.Prelude.{Ok, Err}
use Rattle.whole.specs.Order.{zarith}
use Rattle.circuit.specs.Numbers.{judge}
use Rattle.circuit.specs.Record.{row_limit}
use Rattle.circuit.specs.SetUp.{set_up_rows}
use Rattle.circuit.specs.Run.{play, fresh_waves, Charged, charged_rules, worked, ran, call}
use Rattle.circuit.specs.Take.{output_length, output_bytes}
use Rattle.circuit.specs.Promises.{Charges, Runs}
use Rattle.circuit.specs.declared.Checked.{Checked}
use Rattle.circuit.specs.declared.Prepared.{Prepared}
use Rattle.circuit.specs.declared.Progress.{Progress}
use Rattle.circuit.specs.declared.Record.{Record}
use Rattle.circuit.specs.declared.Refusal.{Refusal}
use Rattle.laws.specs.Accepted.{Sized}
use Rattle.laws.proofs.Judging.{pass_done}
use Rattle.laws.proofs.Trying.{told_above}
use Rattle.laws.proofs.Charging.{Cleared, zero_cleared, cleared_pass}
use Rattle.laws.proofs.Running.{allowed_done, ran_worked}
use Rattle.laws.proofs.Bytes.{length-output_bytes}
use Rattle.engine.proofs.Loading.{zeros_at}
use Rattle.engine.specs.declared.plan.Plan.{Plan}
use Rattle.engine.specs.Sweep.{Modest}
use Rattle.engine.specs.Sample.{Fixed, Loaded, LaidOut}
use Rattle.engine.specs.Play.{Playable, Comes}
use Rattle.engine.specs.Raw.{raw_call, fitting, raw_charged, raw_input, raw_worked, ran_raw, RunsRaw}
use Rattle.engine.proofs.RawRuns.{ran_raw_worked}

-- ---- 3 to 12

module _ {k : Charged} {s : Checked} (h : Charges k s) where
  pub refusing : {e : Refusal} → s.answer ≡ Err e → 0 < (judge charged_rules k).number
  refusing {e} is = rw (← h.number, is) (told_above e)

  pub clearing : s.answer ≡ Ok tt → (judge charged_rules k).number ≡ 0
  clearing is = sym (ap (λ n. n.number) (rw is at h.number))

  pub playable : s.answer ≡ Ok tt → Sized k.circuit → Playable k.circuit s.rows k.waves
  unfolding set_up_rows
  playable is sized =
      let clear = zero_cleared k (clearing is) in
      record { ready = record { sized = sized; set_up = clear.set_up; rows = h.rows ∙ rw clear.set_up refl }; waves = clear.waves }

cleared : {r : Record} {prepared : List Prepared} {ws : List ℤ} → Playable r prepared ws → Cleared (record { circuit = r; waves = ws })
cleared p = record { set_up = p.ready.set_up; waves = p.waves }

-- ---- before the first sample

-- no wave has come down yet
fresh_modest : Modest fresh_waves
unfolding fresh_waves
fresh_modest = record { long = refl; small = λ s. rw (zeros_at row_limit s) (omega zarith) }

pub laid_out : {p : Plan} {r : Record} {ws ups : List ℤ} → Fixed p r → Loaded r ws ups → LaidOut p ups fresh_waves
laid_out {r = r} {ws = ws} fixed loaded = record { circuit = r; stored = ws; fixed = fixed; loaded = loaded; room = fresh_modest }

-- ---- after the last

module _ {r : Record} {prepared : List Prepared} {ws : List ℤ} (h : Playable r prepared ws) {p : Progress} where
  pub runs : (xs before : List ℤ) {out : List ℤ} → length xs ≡ length before → Comes (λ vs. vs) (play r ws xs) before p out
      → Runs (call r ws xs before) p out
  runs xs before equal w =
      let k = call r ws xs before in
      let e : ran k ≡ worked k (play r ws xs) =
      ran_worked k (ap (λ n. n.number) (allowed_done k (record { cleared = cleared h; equal = equal }))) in
      record { number = rw e w.number; samples = rw e w.samples; segment = rw e w.segment; waves = rw e w.waves; output = rw e w.written }

  pub runs_raw : (bytes before : List ℕ) {out : List ℕ} → Comes output_bytes (play r ws (fitting (length before / output_length) bytes)) before p out
      → RunsRaw (raw_call r ws bytes before) p out
  runs_raw bytes before w =
      let k = raw_call r ws bytes before in
      let passes = cleared_pass (raw_charged k) (cleared h) in
      let e : ran_raw k ≡ raw_worked k (play r ws (raw_input k)) =
      ran_raw_worked k (ap (λ n. n.number) (pass_done charged_rules (raw_charged k) passes)) in
      record {
        number = rw e w.number;
        samples = rw e w.samples;
        segment = rw e w.segment;
        waves = rw e w.waves;
        room = rw (e, ← length-output_bytes) w.written;
      }
