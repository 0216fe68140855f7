-- Buffers, by the marks of bytes.
use Rattle.std.proofs.Common.{◌≡◌, ◌↔◌, ℕ, ◌+◌, ◌-◌, ◌<◌, ◌≤◌, Bool, true, false, sym, subst, ap, ◌∙◌, arith}
use Rattle.std.specs.Prelude.{IsTrue, nat_le}
use Rattle.std.proofs.lemmas.Bool.{leb-true}
use Rattle.zarray.specs.declared.width.Width.TheVariants.{Byte}
use Rattle.zstory.specs.Bytes.{byte_at}
use Rattle.zstory.specs.LoadedStory.{IsSound}
use Rattle.zpairs.specs.Frozen.{FrozenStory, frozen_by}
use Rattle.zplace.specs.Bytes.{IsWithin, IsOpen, static}
use Rattle.zruns.specs.declared.cell.Cell.{Cell}
use Rattle.zpairs.specs.Fixed.{is_fixed}
use Rattle.zruns.specs.Runs.{cell_at}
use Rattle.zruns.specs.Blocks.{piece_cell}
use Rattle.zruns.specs.Buffers.{IsBuffer}
use Rattle.zpairs.proofs.Telling.{fixed_is}
use Rattle.zruns.proofs.Pieces.{each_open, one_open}

module _ (told : FrozenStory) where
  -- so many bytes from a place on are open
  abbrev AreFree : ℕ → ℕ → Type 0
  AreFree from size = (p : ℕ) → IsWithin from size p → IsOpen told.story (frozen_by told.ranges) p

  pub piece_open : (from size : ℕ) → IsTrue (piece_cell told Byte from size).is_open ↔ AreFree from size
  piece_open from size = let all = each_open size (λ k. cell_at told Byte (from + k)) in (
    λ e p inside. let at : from + (p - from) ≡ p = omega (arith, inside.0) in subst (λ (q : ℕ). IsOpen told.story (frozen_by told.ranges) q) at ((one_open told (from + (p - from))).0 (all.0 e (p - from) (omega (arith, inside.0, inside.1)))),
    λ free. all.1 (λ k below. (one_open told (from + k)).1 (free (from + k) (omega arith, omega (arith, below)))),
  )

  -- by a piece that ends at the last byte address at most
  pub free_of : (from size end : ℕ) (cell : Cell) → end ≡ from + size → cell ≡ piece_cell told Byte from (end - from) → IsTrue cell.is_open ↔ AreFree from size
  free_of from size end cell last is =
      let long : end - from ≡ size = omega (arith, last) in
      let same : cell.is_open ≡ (piece_cell told Byte from size).is_open = ap (λ (c : Cell). c.is_open) is ∙ ap (λ (n : ℕ). (piece_cell told Byte from n).is_open) long in
      let all = piece_open from size in (λ e. all.0 (sym same ∙ e), λ free. same ∙ all.1 free)

  -- and none that passes it is
  pub no_end_free : (from size : ℕ) → from ≤ 65536 → 65536 < from + size → IsSound told.story.memory → IsTrue (nat_le (from + size) 65536) ↔ AreFree from size
  no_end_free from size low past sound = (
    λ e. absurd (let below = leb-true (from + size) 65536 e in omega (arith, below, past)),
    λ free. absurd (free 65536 (low, past) (static (let first = sound.bytes 14 in let second = sound.bytes 15 in omega (arith, first, second)))),
  )

  -- one whose first byte no play changes, and is large enough
  pub buffer_where : (at least size start byte : ℕ) (fixed free : Bool) → fixed ≡ true → fixed ≡ is_fixed told at → least ≤ byte → byte ≡ byte_at told.story.memory at → start ≡ at → IsTrue free ↔ AreFree (start + 1) size → IsTrue free ↔ IsBuffer told.story (frozen_by told.ranges) at least size
  buffer_where at least size start byte fixed free stays is large there begins all =
      let here : IsTrue free ↔ AreFree (at + 1) size = subst (λ (p : ℕ). IsTrue free ↔ AreFree (p + 1) size) begins all in (
        λ e. record { fixed = (fixed_is told at).0 (sym is ∙ stays); large = omega (arith, large, there); free = here.0 e },
        λ b. here.1 b.free,
      )

  pub no_buffer_where : (at least size : ℕ) (fixed : Bool) → fixed ≡ false → fixed ≡ is_fixed told at → IsTrue false ↔ IsBuffer told.story (frozen_by told.ranges) at least size
  no_buffer_where at least size fixed changes is = (λ e. absurd cc, λ b. absurd (let stays = (fixed_is told at).1 b.fixed in let e = sym stays ∙ sym is ∙ changes in cc))
