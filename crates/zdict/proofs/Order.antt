-- Entries of a dictionary, which are in order.
use Rattle.std.proofs.Common.{◌≡◌, ℕ, zero, suc, ◌+◌, ◌*◌, ◌<◌, ◌≤◌, List, subst, sym, ◌-◌, arith}
use Rattle.std.proofs.lemmas.Nat.{column_fits}
use Rattle.zstory.specs.Bytes.{readable_end}
use Rattle.zstory.specs.Dictionary.{entry_place, entry_length, entry_count, encoded_text, IsOrdered}
use Rattle.zstory.specs.LoadedStory.{IsSound}

-- the text of each entry lies in readable memory
pub entry_inside : (memory : List ℕ) (entry first size count : ℕ) → IsSound memory → first ≡ entry_place memory 0 → size ≡ entry_length memory → count ≡ entry_count memory → entry < count → first + entry * size + 4 ≤ readable_end memory
entry_inside memory entry first size count sound at long counted listed =
    let within : first + count * size ≤ readable_end memory = grind (arith, sound.dictionary_within) in
    let fits = column_fits size entry size count listed (omega arith) in
    grind (arith, sound.entries_long)

-- the text of an entry isn't below that of one before it
pub texts_rise : (memory : List ℕ) (entry more : ℕ) → IsOrdered memory → entry + more < entry_count memory → encoded_text memory entry ≤ encoded_text memory (entry + more)
texts_rise memory entry zero ordered h = let same : entry ≡ entry + 0 = omega arith in subst (λ (k : ℕ). encoded_text memory entry ≤ encoded_text memory k) same (omega arith)
texts_rise memory entry (suc more) ordered h =
    let next : entry + suc more ≡ (entry + more) + 1 = omega arith in
    let here = ordered (entry + more) (omega arith) in
    subst (λ (k : ℕ). encoded_text memory entry ≤ encoded_text memory k) (sym next) (omega (arith, here, texts_rise memory entry more ordered (omega arith)))

pub rises_to : (memory : List ℕ) (entry later : ℕ) → IsOrdered memory → entry ≤ later → later < entry_count memory → encoded_text memory entry ≤ encoded_text memory later
rises_to memory entry later ordered h listed =
    let same : entry + (later - entry) ≡ later = omega arith in
    subst (λ (k : ℕ). encoded_text memory entry ≤ encoded_text memory k) same (texts_rise memory entry (later - entry) ordered (omega arith))
