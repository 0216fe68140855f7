-- The bytes of a side in their room.
use Rattle.std.proofs.Common.{◌≡◌, ℕ, ◌+◌, ◌<◌, ◌≤◌, List, [], ◌∷◌, ◌++◌, length, length-append, get_or, take, set, sym, ap, ◌∙◌, arith}
use Rattle.std.specs.Prelude.{map}
use Rattle.std.proofs.lemmas.List.{length-map, length-take, map-append, take-append-le, take_all, take_more, take_more_set}

-- a byte more, where there is room for it, and where there is none
pub push_room : (bytes : List ℕ) (count at byte : ℕ) → length bytes ≡ 255 → count < 255 → at ≡ count → take (count + 1) (set bytes at byte) ≡ take 255 (take count bytes ++ byte ∷ [])
push_room bytes count at byte room below here =
    ap (λ (n : ℕ). take (count + 1) (set bytes n byte)) here ∙ take_more_set bytes count byte (omega (arith, room, below))
    ∙ sym (take_all 255 (take count bytes ++ byte ∷ []) (omega (arith, length-append (take count bytes) (byte ∷ []), length-take count bytes, below)))

pub push_full : (bytes : List ℕ) (count byte : ℕ) → length bytes ≡ 255 → 255 ≤ count → take count bytes ≡ take 255 (take count bytes ++ byte ∷ [])
push_full bytes count byte room full =
    let all : take count bytes ≡ bytes = take_all count bytes (omega (arith, room, full)) in
    all ∙ sym (take_all 255 bytes (omega (arith, room))) ∙ sym (take-append-le 255 bytes (byte ∷ []) (omega (arith, room))) ∙ ap (λ (b : List ℕ). take 255 (b ++ byte ∷ [])) (sym all)

-- a byte more, made printable
pub shown_more : (f : ℕ → ℕ) (bytes shown next : List ℕ) (at : ℕ) → at < length bytes → length bytes ≤ 255 → shown ≡ map f (take at bytes) → next ≡ take 255 (shown ++ f (get_or bytes at 0) ∷ []) → next ≡ map f (take (at + 1) bytes)
shown_more f bytes shown next at within few same more =
    let short : length (shown ++ f (get_or bytes at 0) ∷ []) ≤ 255 = omega (arith, length-append shown (f (get_or bytes at 0) ∷ []), ap length same, length-map (take at bytes) f, length-take at bytes, within, few) in
    more ∙ take_all 255 (shown ++ f (get_or bytes at 0) ∷ []) short ∙ ap (λ (b : List ℕ). b ++ f (get_or bytes at 0) ∷ []) same
    ∙ sym (ap (map f) (take_more bytes at 0 within) ∙ map-append f (take at bytes) (get_or bytes at 0 ∷ []))
