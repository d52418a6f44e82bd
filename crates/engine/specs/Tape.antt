-- How outputs are written one after another, each in as many numbers or bytes as any other.
use Rattle.std.specs.Prelude.{ℕ, ◌*◌, ◌≡◌, List, [], ◌∷◌, ◌++◌, ℤ, length}

-- one output as a piece, and outputs in their order
pub record Shows {A : Type 0} (width : ℕ) (piece : ℤ → List A) (shown : List ℤ → List A) : Type 0 where
  pub more : (vs : List ℤ) (v : ℤ) → shown (vs ++ (v ∷ [])) ≡ shown vs ++ piece v
  pub long : (vs : List ℤ) → length (shown vs) ≡ width * length vs
