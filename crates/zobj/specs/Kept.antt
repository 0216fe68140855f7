-- What calls on objects leave as it is.
use Rattle.std.specs.Prelude.{◌≡◌, ℕ, ◌⊎◌, List, length}
use Rattle.zstory.specs.Bytes.{byte_at}

-- a memory is as long as another, and at each place has the same byte, or the place is of a kind
pub record DiffersOnly (IsChanged : ℕ → Type 0) (memory after : List ℕ) : Type 0 where
  pub size : length after ≡ length memory
  pub rest : (p : ℕ) → (byte_at after p ≡ byte_at memory p) ⊎ IsChanged p
