-- What the uses promise: the theorems of reading and writing and of a run, said of what is handed back and left; and where a take can be cut.
use Rattle.std.specs.Prelude.{Result, IfOk, ⊤, ℕ, ◌+◌, ◌/◌, ◌<◌, ◌≡◌, Bool, ◌&&◌, cond, List, [], ◌∷◌, ◌++◌, eqb, leb, get_or, ℤ, pos}
use Rattle.circuit.specs.Numbers.{Rule, rule, judge, of, handed}
use Rattle.circuit.specs.SetUp.{set_up_report}
use Rattle.circuit.specs.File.{file_length_rule, read_rules}
use Rattle.circuit.specs.Run.{Call}
use Rattle.circuit.specs.Take.{sample_length, left_limit, take_limit}
use Rattle.circuit.specs.Promises.{Runs}
use Rattle.circuit.specs.declared.Carried.{Carried}
use Rattle.circuit.specs.declared.Record.{Record}
use Rattle.circuit.specs.declared.Refusal.{Refusal}
use Rattle.circuit.specs.declared.Progress.{Progress}
use Rattle.theorems.specs.Limit.{waves_after, Bounded}
use Rattle.takes.specs.Own.{room_for}

-- ---- a file read, and its record written

-- the file, and what the buffer holds before
pub record RewriteCall : Type 0 where
  pub file : List ℕ
  pub buffer : List ℕ

-- reading's 1 to 11, and after them 1 for the buffer
unfoldable pub rewrite_rules : List (Rule RewriteCall)
rewrite_rules = of (λ w. w.file) read_rules ++ (rule 1 (λ w. file_length_rule w.buffer) ∷ [])

-- the very bytes that were read, or the buffer as it was
pub record Rewrites (w : RewriteCall) (s : Result ⊤ Refusal) (after : List ℕ) : Type 0 where
  pub number : handed s ≡ judge rewrite_rules w
  pub buffer : after ≡ cond (eqb (judge rewrite_rules w).number 0) w.file w.buffer

-- ---- a record written, and its file read

-- the very record that was written
pub record Rereads (r : Record) (s : Result Record Refusal) : Type 0 where
  pub number : handed s ≡ set_up_report r
  pub circuit : IfOk s (λ c. c ≡ r)

-- ---- a call of a take that can be cut

-- of n bytes and m of room, at byte `at`
abbrev pub can_cut : Carried → ℕ → ℕ → ℕ → Bool
can_cut c n m at = leb (c.done + (c.count + n) / sample_length) take_limit && leb at n && leb c.count left_limit && eqb m (room_for n c)

-- ---- a run beside the unrounded samples

-- each sample that is reported done is within the limit, and the waves handed back are those after the last of them
pub record RunsBounded (c : Call) (p : Progress) (after : List ℤ) : Type 0 where
  pub runs : Runs c p after
  pub bounded : (i : ℕ) → i < p.done → Bounded c i (get_or after i (pos 0))
  pub left : p.state.waves ≡ waves_after c p.done
