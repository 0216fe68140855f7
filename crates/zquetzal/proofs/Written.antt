-- How much was written.
use Rattle.std.proofs.Common.{◌≡◌, ℕ, zero, suc, ◌+◌, ◌*◌, ◌%◌, ◌≤◌, List, [], ◌∷◌, ◌++◌, length, take, Some, sym, ap, ◌∙◌, append_assoc, arith, length-append}
use Rattle.std.specs.Prelude.{slice_get, replicate}
use Rattle.std.proofs.lemmas.List.{append-nil}
use Rattle.zquetzal.specs.declared.origin.Origin.{Origin}
use Rattle.zquetzal.specs.Saved.{Frame, Saved}
use Rattle.std.specs.List.{flat_map}
use Rattle.byteorder.specs.Endian.{big_bytes}
use Rattle.zquetzal.specs.declared.limits.TheConstants.{FORM, IFZS, IFHD, STKS, HEADER_LENGTH}
use Rattle.zquetzal.specs.Grammar.{Chunk, chunk_bytes, form_bytes, header_bytes, frame_bytes, frames_bytes, header_chunk, memory_chunk, stacks_chunk, save_text}
use Rattle.zquetzal.proofs.Saves.{length-frame_bytes, length-chunk, header_long, frames_even}

some_is : (f g : Frame) → Some f ≡ Some g → f ≡ g
some_is f g e = cc

-- one frame more was written
pub frames_more : (fs : List Frame) (k : ℕ) (f : Frame) → slice_get fs k ≡ Some f → frames_bytes (take (suc k) fs) ≡ frames_bytes (take k fs) ++ frame_bytes f
frames_more [] k f e = absurd cc
frames_more (g ∷ fs) zero f e = append-nil (frame_bytes g) ∙ ap frame_bytes (some_is g f e)
frames_more (g ∷ fs) (suc k) f e = ap (λ (t : List ℕ). frame_bytes g ++ t) (frames_more fs k f e) ∙ sym (append_assoc (frame_bytes g) (frames_bytes (take k fs)) (frame_bytes f))

-- and there is room for it
pub frames_room : (fs : List Frame) (k : ℕ) (f : Frame) → slice_get fs k ≡ Some f → length (frames_bytes (take k fs)) + length (frame_bytes f) ≤ length (frames_bytes fs)
frames_room [] k f e = absurd cc
frames_room (g ∷ fs) zero f e = omega (arith, length-append (frame_bytes g) (frames_bytes fs), ap (λ (x : Frame). length (frame_bytes x)) (some_is g f e))
frames_room (g ∷ fs) (suc k) f e =
    let rest = frames_room fs k f e in
    omega (arith, length-append (frame_bytes g) (frames_bytes fs), length-append (frame_bytes g) (frames_bytes (take k fs)), rest)

pub frames_longer : (fs : List Frame) (k : ℕ) (f : Frame) → slice_get fs k ≡ Some f → length (frames_bytes (take (k + 1) fs)) ≡ length (frames_bytes (take k fs)) + (8 + 2 * (length f.locals + length f.stack))
frames_longer fs k f e =
    let next : k + 1 ≡ suc k = omega arith in
    let more : length (frames_bytes (take (k + 1) fs)) ≡ length (frames_bytes (take k fs) ++ frame_bytes f) = ap (λ (n : ℕ). length (frames_bytes (take n fs))) next ∙ ap length (frames_more fs k f e) in
    omega (arith, more, length-append (frames_bytes (take k fs)) (frame_bytes f), length-frame_bytes f)

chunks_size : (a b c : Chunk) (body : ℕ) → length (form_bytes (a ∷ b ∷ c ∷ [])) ≡ 12 + body → 4 + body ≡ 4 + length (flat_map chunk_bytes (a ∷ b ∷ c ∷ []))
chunks_size a b c body e = let whole : length (form_bytes (a ∷ b ∷ c ∷ [])) ≡ 12 + length (flat_map chunk_bytes (a ∷ b ∷ c ∷ [])) = omega arith in omega (arith, whole, e)

-- `IFhd` has 13 bytes and one behind them
pub header_text : (o : Origin) (place : ℕ) → length o.serial ≡ 6 → chunk_bytes (record { id = IFHD; contents = header_bytes o place }) ≡ (big_bytes 4 IFHD ++ big_bytes 4 HEADER_LENGTH) ++ header_bytes o place ++ 0 ∷ []
header_text o place six = ap (λ (n : ℕ). big_bytes 4 IFHD ++ big_bytes 4 n ++ header_bytes o place ++ replicate (n % 2) 0) (header_long o place six)

-- `Stks` has no byte behind them
pub stacks_text : (s : Saved) (size : ℕ) → size ≡ length (frames_bytes s.frames) → chunk_bytes (stacks_chunk s) ≡ (big_bytes 4 STKS ++ big_bytes 4 size) ++ frames_bytes s.frames
stacks_text s size e =
    let text = frames_bytes s.frames in
    ap (λ (n : ℕ). big_bytes 4 STKS ++ big_bytes 4 (length text) ++ text ++ replicate n 0) (frames_even s.frames) ∙ append-nil ((big_bytes 4 STKS ++ big_bytes 4 (length text)) ++ text) ∙ ap (λ (n : ℕ). (big_bytes 4 STKS ++ big_bytes 4 n) ++ text) (sym e)

pub stacks_long : (s : Saved) → length (chunk_bytes (stacks_chunk s)) ≡ 8 + length (frames_bytes s.frames)
stacks_long s = omega (arith, length-chunk (stacks_chunk s), frames_even s.frames)

pub memory_long : (id : ℕ) (d : List ℕ) → length (chunk_bytes (record { id = id; contents = d })) ≡ 8 + length d + length d % 2
memory_long id d = length-chunk (record { id = id; contents = d })

joined : (old a b h m s : List ℕ) → ((((old ++ a) ++ b) ++ h) ++ m) ++ s ≡ old ++ (a ++ b ++ (h ++ (m ++ (s ++ []))))
joined old a b h m s = simp (append_assoc, append-nil)

-- all parts, one behind another
pub text_is : (o : Origin) (s : Saved) (old : List ℕ) (body : ℕ) → length (save_text o s) ≡ 12 + body → ((((old ++ (big_bytes 4 FORM ++ big_bytes 4 (4 + body))) ++ big_bytes 4 IFZS) ++ chunk_bytes (header_chunk o s)) ++ chunk_bytes (memory_chunk s)) ++ chunk_bytes (stacks_chunk s) ≡ old ++ save_text o s
text_is o s old body e =
    let h = header_chunk o s in
    let m = memory_chunk s in
    let k = stacks_chunk s in
    let size : 4 + body ≡ 4 + length (flat_map chunk_bytes (h ∷ m ∷ k ∷ [])) = chunks_size h m k body e in
    joined old (big_bytes 4 FORM ++ big_bytes 4 (4 + body)) (big_bytes 4 IFZS) (chunk_bytes h) (chunk_bytes m) (chunk_bytes k)
    ∙ ap (λ (n : ℕ). old ++ (big_bytes 4 FORM ++ big_bytes 4 n ++ big_bytes 4 IFZS ++ flat_map chunk_bytes (h ∷ m ∷ k ∷ []))) size
