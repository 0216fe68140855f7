-- What is given out of a text, byte by byte.
use Rattle.std.proofs.Common.{◌≡◌, ℕ, suc, ◌+◌, ◌<◌, ◌≤◌, Bool, true, false, ◌⊎◌, inl, inr, List, [], ◌∷◌, ◌++◌, length, length-append, refl, sym, ap, ◌∙◌, subst, append_assoc, append-nil, add-zero, arith}
use Rattle.std.specs.Prelude.{◌==◌, ◌||◌, ◌&&◌, if◌then◌else◌, nat_lt}
use Rattle.std.proofs.lemmas.Bool.{le-ltb, lt-ltb}
use Rattle.zfront.specs.Wrapping.{ends_word, word_length, goes_past, shown, column_behind, wrapped, Wrapping, IsHeld, coming, Feeds}

-- ---- bytes

-- a letter is no space and no end of line
pub letter_tests : (byte : ℕ) → ends_word byte ≡ false → ((byte == 32) ≡ false) × ((byte == 10) ≡ false)
letter_tests byte letter = parts (byte == 32) (byte == 10) letter
  where
    parts : (a b : Bool) → (a || b) ≡ false → (a ≡ false) × (b ≡ false)
    parts true b e = absurd cc
    parts false b e = (refl, e)

-- the first letter of a word, and its others
pub word_parts : (byte : ℕ) (word : List ℕ) → word_length (byte ∷ word) ≡ length (byte ∷ word) → (ends_word byte ≡ false) × (word_length word ≡ length word)
word_parts byte word whole = parts (ends_word byte) refl whole
  where
    parts : (t : Bool) → ends_word byte ≡ t → (if t then 0 else suc (word_length word)) ≡ suc (length word) → (ends_word byte ≡ false) × (word_length word ≡ length word)
    parts true e h = absurd (omega (arith, h))
    parts false e h = (e, omega (arith, h))

-- a word, with what stands behind it
pub word_length-behind : (word rest : List ℕ) → word_length word ≡ length word → word_length (word ++ rest) ≡ length word + word_length rest
word_length-behind [] rest whole = omega arith
word_length-behind (byte ∷ word) rest whole =
    let parts = word_parts byte word whole in
    let more = word_length-behind word rest parts.1 in
    rw parts.0 (omega (arith, more))

-- ---- what goes past the width

pub past-not : (width column word : ℕ) → column + 1 + word ≤ width → goes_past width column word ≡ false
past-not width column word fits = rw (le-ltb width (column + 1 + word) fits) (right (nat_lt 0 width))
  where
    right : (t : Bool) → (t && false) ≡ false
    right true = refl
    right false = refl

pub past-yes : (width column word : ℕ) → 0 < width → width < column + 1 + word → goes_past width column word ≡ true
past-yes width column word wide past = rw (lt-ltb 0 width wide, lt-ltb width (column + 1 + word) past) refl

-- past the width one column is as another
pub past-full : (width c d word : ℕ) → width ≤ c → width ≤ d → goes_past width c word ≡ goes_past width d word
past-full width c d word first second = rw (lt-ltb width (c + 1 + word) (omega arith), lt-ltb width (d + 1 + word) (omega arith)) refl

-- ---- how bytes are shown

pub wrapped-letter : (width column byte : ℕ) (rest : List ℕ) → ends_word byte ≡ false → wrapped width column (byte ∷ rest) ≡ byte ∷ wrapped width (column + 1) rest
wrapped-letter width column byte rest letter = rw ((letter_tests byte letter).0, (letter_tests byte letter).1) refl

-- letters are shown as they are, whatever follows
pub wrapped-word : (width column : ℕ) (word rest : List ℕ) → word_length word ≡ length word → wrapped width column (word ++ rest) ≡ word ++ wrapped width (column + length word) rest
wrapped-word width column [] rest whole = rw add-zero refl
wrapped-word width column (byte ∷ word) rest whole =
    let parts = word_parts byte word whole in
    let same : column + 1 + length word ≡ column + length (byte ∷ word) = omega arith in
    wrapped-letter width column byte (word ++ rest) parts.0
    ∙ ap (λ (seen : List ℕ). byte ∷ seen) (wrapped-word width (column + 1) word rest parts.1 ∙ ap (λ (c : ℕ). word ++ wrapped width c rest) same)

pub wrapped-kept : (width column : ℕ) (rest : List ℕ) → goes_past width column (word_length rest) ≡ false → wrapped width column (32 ∷ rest) ≡ 32 ∷ wrapped width (column + 1) rest
wrapped-kept width column rest fits = rw fits refl

pub wrapped-broken : (width column : ℕ) (rest : List ℕ) → goes_past width column (word_length rest) ≡ true → wrapped width column (32 ∷ rest) ≡ 10 ∷ wrapped width 0 rest
wrapped-broken width column rest past = rw past refl

-- from a full line on one column is as another
pub wrapped-full : (width c d : ℕ) (text : List ℕ) → width ≤ c → width ≤ d → wrapped width c text ≡ wrapped width d text
wrapped-full width c d [] first second = refl
wrapped-full width c d (byte ∷ rest) first second =
    ap (λ (seen : List ℕ). shown width c byte rest ∷ seen) (behind (shown width c byte rest == 10) (wrapped-full width (c + 1) (d + 1) rest (omega arith) (omega arith)))
    ∙ ap (λ (p : Bool). (if (byte == 32) && p then 10 else byte) ∷ wrapped width (column_behind d (if (byte == 32) && p then 10 else byte)) rest) (past-full width c d (word_length rest) first second)
  where
    behind : (t : Bool) → wrapped width (c + 1) rest ≡ wrapped width (d + 1) rest → wrapped width (if t then 0 else c + 1) rest ≡ wrapped width (if t then 0 else d + 1) rest
    behind true same = refl
    behind false same = same

pub length-wrapped : (width column : ℕ) (text : List ℕ) → length (wrapped width column text) ≡ length text
length-wrapped width column [] = refl
length-wrapped width column (byte ∷ rest) = ap suc (length-wrapped width (column_behind column (shown width column byte rest)) rest)

-- ---- what is held

-- it is shown as it is, if nothing follows
pub held-alone : (width column : ℕ) (held : List ℕ) → IsHeld width column held → wrapped width column held ≡ held
held-alone width column [] is = refl
held-alone width column (byte ∷ word) is =
    let fits : column + 1 + word_length word ≤ width = omega (arith, is.1, is.2) in
    let shows : wrapped width column (32 ∷ word) ≡ 32 ∷ word =
    wrapped-kept width column word (past-not width column (word_length word) fits)
    ∙ ap (λ (seen : List ℕ). 32 ∷ seen) (ap (wrapped width (column + 1)) (sym (append-nil word)) ∙ wrapped-word width (column + 1) word [] is.1 ∙ append-nil word) in
    subst (λ (b : ℕ). wrapped width column (b ∷ word) ≡ b ∷ word) (sym is.0) shows

-- and so before a byte that ends the word
pub held-settled : (width column : ℕ) (held : List ℕ) (byte : ℕ) (rest : List ℕ) → IsHeld width column held → ends_word byte ≡ true → wrapped width column (held ++ byte ∷ rest) ≡ held ++ wrapped width (column + length held) (byte ∷ rest)
held-settled width column [] byte rest is ends = rw add-zero refl
held-settled width column (space ∷ word) byte rest is ends =
    let behind : word_length (word ++ byte ∷ rest) ≡ length word = word_length-behind word (byte ∷ rest) is.1 ∙ ap (λ (t : Bool). length word + (if t then 0 else suc (word_length rest))) ends ∙ add-zero (length word) in
    let fits : column + 1 + word_length (word ++ byte ∷ rest) ≤ width = omega (arith, behind, is.2) in
    let same : column + 1 + length word ≡ column + suc (length word) = omega arith in
    let shows : wrapped width column (32 ∷ (word ++ byte ∷ rest)) ≡ 32 ∷ (word ++ wrapped width (column + suc (length word)) (byte ∷ rest)) =
    wrapped-kept width column (word ++ byte ∷ rest) (past-not width column _ fits)
    ∙ ap (λ (seen : List ℕ). 32 ∷ seen) (wrapped-word width (column + 1) word (byte ∷ rest) is.1 ∙ ap (λ (c : ℕ). word ++ wrapped width c (byte ∷ rest)) same) in
    subst (λ (b : ℕ). wrapped width column (b ∷ (word ++ byte ∷ rest)) ≡ b ∷ (word ++ wrapped width (column + suc (length word)) (byte ∷ rest))) (sym is.0) shows

-- a letter more than fits: the space was an end of line
pub held-broken : (width column space : ℕ) (word : List ℕ) (byte : ℕ) (rest : List ℕ) → IsHeld width column (space ∷ word) → ends_word byte ≡ false → width ≤ column + length (space ∷ word)
    → wrapped width column ((space ∷ word) ++ byte ∷ rest) ≡ (10 ∷ (word ++ byte ∷ [])) ++ wrapped width (length (space ∷ word)) rest
held-broken width column space word byte rest is letter full =
    let behind : word_length (word ++ byte ∷ rest) ≡ length word + suc (word_length rest) = word_length-behind word (byte ∷ rest) is.1 ∙ ap (λ (t : Bool). length word + (if t then 0 else suc (word_length rest))) letter in
    let past : width < column + 1 + word_length (word ++ byte ∷ rest) = omega (arith, behind, full) in
    let wide : 0 < width = omega (arith, is.2) in
    let same : 0 + length word + 1 ≡ suc (length word) = omega arith in
    let shows : wrapped width column (32 ∷ (word ++ byte ∷ rest)) ≡ 10 ∷ ((word ++ byte ∷ []) ++ wrapped width (suc (length word)) rest) =
    wrapped-broken width column (word ++ byte ∷ rest) (past-yes width column _ wide past)
    ∙ ap (λ (seen : List ℕ). 10 ∷ seen) (wrapped-word width 0 word (byte ∷ rest) is.1
    ∙ ap (λ (seen : List ℕ). word ++ seen) (wrapped-letter width (0 + length word) byte rest letter ∙ ap (λ (c : ℕ). byte ∷ wrapped width c rest) same)
    ∙ sym (append_assoc word (byte ∷ []) (wrapped width (suc (length word)) rest))) in
    subst (λ (b : ℕ). wrapped width column (b ∷ (word ++ byte ∷ rest)) ≡ 10 ∷ ((word ++ byte ∷ []) ++ wrapped width (suc (length word)) rest)) (sym is.0) shows

-- it fits in the line
pub held_within : (width column : ℕ) (held : List ℕ) → column ≤ width → IsHeld width column held → column + length held ≤ width
held_within width column [] line is = omega (arith, line)
held_within width column (byte ∷ word) line is = omega (arith, is.2)

pub held_short : (width column : ℕ) (held : List ℕ) → IsHeld width column held → length held ≤ width
held_short width column [] is = omega arith
held_short width column (byte ∷ word) is = omega (arith, is.2)

-- and so it does nearer to the beginning of the line
pub held_nearer : (width column nearer : ℕ) (held : List ℕ) → nearer ≤ column → IsHeld width column held → IsHeld width nearer held
held_nearer width column nearer [] before is = tt
held_nearer width column nearer (byte ∷ word) before is = (is.0, is.1, omega (arith, is.2, before))

-- a word with a letter more
pub word_length-more : (word : List ℕ) (byte : ℕ) → word_length word ≡ length word → ends_word byte ≡ false → word_length (word ++ byte ∷ []) ≡ length (word ++ byte ∷ [])
word_length-more word byte whole letter =
    let behind : word_length (word ++ byte ∷ []) ≡ length word + 1 = word_length-behind word (byte ∷ []) whole ∙ ap (λ (t : Bool). length word + (if t then 0 else 1)) letter in
    omega (arith, behind, length-append word (byte ∷ []))

pub held_more : (width column : ℕ) (held : List ℕ) (byte : ℕ) → IsHeld width column held → 0 < length held → ends_word byte ≡ false → column + length held < width → IsHeld width column (held ++ byte ∷ [])
held_more width column [] byte is some letter fits = absurd (omega (arith, some))
held_more width column (space ∷ word) byte is some letter fits = (is.0, word_length-more word byte is.1 letter, omega (arith, fits, length-append word (byte ∷ [])))

-- ---- pieces

-- what is said of each text that may follow is said of none
pub feeds : (old new : Wrapping) (piece given : List ℕ) → new.width ≡ old.width → IsHeld new.width new.column new.held → ((text : List ℕ) → coming old (piece ++ text) ≡ given ++ coming new text) → Feeds old new piece given
feeds old new piece given width is later = record {
  width = width;
  whole = ap (coming old) (sym (append-nil piece)) ∙ later [] ∙ ap (λ (seen : List ℕ). given ++ seen) (ap (wrapped new.width new.column) (append-nil new.held) ∙ held-alone new.width new.column new.held is);
  later = later;
}

pub Feeds-none : (old : Wrapping) → IsHeld old.width old.column old.held → Feeds old old [] []
Feeds-none old is = feeds old old [] [] refl is (λ text. refl)

-- two pieces, one after the other, are one
pub Feeds-trans : (a b c : Wrapping) (piece more given then_given : List ℕ) → Feeds a b piece given → Feeds b c more then_given → Feeds a c (piece ++ more) (given ++ then_given)
Feeds-trans a b c piece more given then_given first second = record {
  width = second.width ∙ first.width;
  whole = first.later more ∙ ap (λ (seen : List ℕ). given ++ seen) second.whole ∙ sym (append_assoc given then_given c.held);
  later = λ text.
      ap (coming a) (append_assoc piece more text) ∙ first.later (more ++ text) ∙ ap (λ (seen : List ℕ). given ++ seen) (second.later text) ∙ sym (append_assoc given then_given (coming c text));
}

-- the same, to be named by a law
pub pieces_join : (a b c : Wrapping) (piece more given then_given : List ℕ) → Feeds a b piece given → Feeds b c more then_given → Feeds a c (piece ++ more) (given ++ then_given)
pieces_join = Feeds-trans

-- no byte is lost, and none comes twice
pub Feeds-length : (old new : Wrapping) (piece given : List ℕ) → Feeds old new piece given → length old.held + length piece ≡ length given + length new.held
Feeds-length old new piece given fed =
    let sides : length (coming old piece) ≡ length (given ++ new.held) = ap length fed.whole in
    let left : length (coming old piece) ≡ length (old.held ++ piece) = length-wrapped old.width old.column (old.held ++ piece) in
    omega (arith, sides, left, length-append old.held piece, length-append given new.held)

-- ---- a byte

-- a space, of which is held what it is decided by
pub space-held : (width column : ℕ) (held : List ℕ) → IsHeld width column held → column + length held < width
    → Feeds (record { width = width; column = column; held = held }) (record { width = width; column = column + length held; held = 32 ∷ [] }) (32 ∷ []) held
space-held width column held is fits =
    feeds _ _ (32 ∷ []) held refl (refl, refl, omega (arith, fits)) (λ text. held-settled width column held 32 text is refl)

-- a space, where nothing goes past the width
pub space-wide : (width column after : ℕ) (held : List ℕ) → IsHeld width column held → width ≡ 0
    → Feeds (record { width = width; column = column; held = held }) (record { width = width; column = after; held = [] }) (32 ∷ []) (held ++ 32 ∷ [])
space-wide width column after held is wide =
    feeds _ _ (32 ∷ []) (held ++ 32 ∷ []) refl tt (λ text.
    let kept : goes_past width (column + length held) (word_length text) ≡ false = rw wide refl in
    held-settled width column held 32 text is refl
    ∙ ap (λ (seen : List ℕ). held ++ seen) (wrapped-kept width (column + length held) text kept ∙ ap (λ (seen : List ℕ). 32 ∷ seen) (wrapped-full width (column + length held + 1) after text (omega (arith, wide)) (omega (arith, wide))))
    ∙ sym (append_assoc held (32 ∷ []) (wrapped width after text)))

-- a space at the end of a full line
pub space-broken : (width column : ℕ) (held : List ℕ) → IsHeld width column held → 0 < width → width ≤ column + length held
    → Feeds (record { width = width; column = column; held = held }) (record { width = width; column = 0; held = [] }) (32 ∷ []) (held ++ 10 ∷ [])
space-broken width column held is wide full =
    feeds _ _ (32 ∷ []) (held ++ 10 ∷ []) refl tt (λ text.
    held-settled width column held 32 text is refl
    ∙ ap (λ (seen : List ℕ). held ++ seen) (wrapped-broken width (column + length held) text (past-yes width (column + length held) (word_length text) wide (omega (arith, full))))
    ∙ sym (append_assoc held (10 ∷ []) (wrapped width 0 text)))

pub newline-ends : (width column : ℕ) (held : List ℕ) → IsHeld width column held
    → Feeds (record { width = width; column = column; held = held }) (record { width = width; column = 0; held = [] }) (10 ∷ []) (held ++ 10 ∷ [])
newline-ends width column held is =
    feeds _ _ (10 ∷ []) (held ++ 10 ∷ []) refl tt (λ text.
    held-settled width column held 10 text is refl ∙ sym (append_assoc held (10 ∷ []) (wrapped width 0 text)))

-- a letter behind nothing that is held
pub letter-passes : (width column after byte : ℕ) → ends_word byte ≡ false → ((after ≡ column + 1) ⊎ ((width ≤ column) × (width ≤ after)))
    → Feeds (record { width = width; column = column; held = [] }) (record { width = width; column = after; held = [] }) (byte ∷ []) (byte ∷ [])
letter-passes width column after byte letter next =
    feeds _ _ (byte ∷ []) (byte ∷ []) refl tt (λ text. wrapped-letter width column byte text letter ∙ ap (λ (seen : List ℕ). byte ∷ seen) (behind text next))
  where
    behind : (text : List ℕ) → (after ≡ column + 1) ⊎ ((width ≤ column) × (width ≤ after)) → wrapped width (column + 1) text ≡ wrapped width after text
    behind text (inl same) = ap (λ (c : ℕ). wrapped width c text) (sym same)
    behind text (inr full) = wrapped-full width (column + 1) after text (omega (arith, full.0)) full.1

-- a letter of a word that fits so far
pub letter-held : (width column byte : ℕ) (held : List ℕ) → IsHeld width column held → 0 < length held → ends_word byte ≡ false → column + length held < width
    → Feeds (record { width = width; column = column; held = held }) (record { width = width; column = column; held = held ++ byte ∷ [] }) (byte ∷ []) []
letter-held width column byte held is some letter fits =
    feeds _ _ (byte ∷ []) [] refl (held_more width column held byte is some letter fits) (λ text. ap (wrapped width column) (sym (append_assoc held (byte ∷ []) text)))

-- a letter of a word that goes past the width
pub letter-breaks : (width column space byte : ℕ) (word : List ℕ) → IsHeld width column (space ∷ word) → ends_word byte ≡ false → width ≤ column + length (space ∷ word)
    → Feeds (record { width = width; column = column; held = space ∷ word }) (record { width = width; column = length (space ∷ word); held = [] }) (byte ∷ []) (10 ∷ (word ++ byte ∷ []))
letter-breaks width column space byte word is letter full =
    feeds _ _ (byte ∷ []) (10 ∷ (word ++ byte ∷ [])) refl tt (λ text. held-broken width column space word byte text is letter full)
