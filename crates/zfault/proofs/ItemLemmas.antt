-- How items grow by text, and what of them is text.
use Rattle.std.proofs.Common.{Bool, false, ◌≡◌, ◌≢◌, ◌⊎◌, inl, inr, ℕ, zero, suc, ◌<◌, ◌≤◌, ◌+◌, ◌-◌, List, [], ◌∷◌, ◌++◌, length, map, take, drop, Result, Ok, Err, refl, sym, ap, ◌∙◌, arith}
use Rattle.std.specs.Prelude.{IsFalse, OnOk, is_err, is_ok, if◌then◌else◌}
use Rattle.std.proofs.Math.Nat.{min-le_right, le-min}
use Rattle.std.proofs.lemmas.List.{append-nil, length-append, take-append-le, drop-append-le, append_assoc, map-append, take-append-drop}
use Rattle.zfault.specs.declared.item.Item.{Item}
use Rattle.zfault.specs.declared.item.Item.TheVariants.{Status, Text}
use Rattle.zfault.specs.declared.items.Mark.{Mark}
use Rattle.zfault.specs.Items.{items_of, room_beside, size, size_of_lines, StandWithin, text_of}

-- status lines that stand within a text stand within a longer one
pub StandWithin-more : (end more : ℕ) (marks : List Mark) → StandWithin end marks → end ≤ more → StandWithin more marks
StandWithin-more end more [] stands longer = tt
StandWithin-more end more (mark ∷ older) stands longer = (omega (arith, stands.0, longer), stands.1)

-- more text comes behind all of them
pub items_of-append : (text more : List ℕ) (marks : List Mark) → StandWithin (length text) marks → items_of (text ++ more) marks ≡ items_of text marks ++ map Text more
items_of-append text more [] stands = map-append Text text more
items_of-append text more (mark ∷ older) stands =
    rw (take-append-le mark.place text more stands.0, drop-append-le mark.place text more stands.0, map-append Text (drop mark.place text) more)
    (sym (append_assoc (items_of (take mark.place text) older) (Status mark.status ∷ map Text (drop mark.place text)) (map Text more)))

pub text_of-append : (xs ys : List Item) → text_of (xs ++ ys) ≡ text_of xs ++ text_of ys
text_of-append [] ys = refl
text_of-append (Text byte ∷ xs) ys = ap (λ (bytes : List ℕ). byte ∷ bytes) (text_of-append xs ys)
text_of-append (Status status ∷ xs) ys = text_of-append xs ys

text_of-map : (text : List ℕ) → text_of (map Text text) ≡ text
text_of-map [] = refl
text_of-map (byte ∷ text) = ap (λ (bytes : List ℕ). byte ∷ bytes) (text_of-map text)

-- the text of the items is the text that they are made of
pub text_of-items : (text : List ℕ) (marks : List Mark) → text_of (items_of text marks) ≡ text
text_of-items text [] = text_of-map text
text_of-items text (mark ∷ older) =
    text_of-append (items_of (take mark.place text) older) (Status mark.status ∷ map Text (drop mark.place text))
    ∙ rw (text_of-items (take mark.place text) older, text_of-map (drop mark.place text)) (take-append-drop mark.place text)

-- so the items give back their text, and with it where the status lines stand
pub items_of-text : (text : List ℕ) (marks : List Mark) (items : List Item) → items_of text marks ≡ items → items ≡ items_of (text_of items) marks
items_of-text text marks items is = rw (← is, text_of-items text marks) refl

pub StandWithin-text : (text : List ℕ) (marks : List Mark) (items : List Item) → items_of text marks ≡ items → StandWithin (length text) marks → StandWithin (length (text_of items)) marks
StandWithin-text text marks items is stands = rw (← is, text_of-items text marks) stands

-- text that was to be appended: the status lines stand within what is there now
pub StandWithin-grown : {A E : Type 0} (appended : Result A E) (text new bytes : List ℕ) (marks : List Mark) → StandWithin (length text) marks → new ≡ (if is_ok appended then text ++ bytes else text) → StandWithin (length new) marks
StandWithin-grown (Ok value) text new bytes marks stands now = rw now (StandWithin-more (length text) (length (text ++ bytes)) marks stands (rw length-append (omega arith)))
StandWithin-grown (Err error) text new bytes marks stands now = rw now stands

-- and where memory for it wasn't refused, it comes behind the items that were there
pub items_of-grown : {A E : Type 0} (appended : Result A E) (text new bytes : List ℕ) (marks : List Mark) (before : List Item) → StandWithin (length text) marks → items_of text marks ≡ before → new ≡ (if is_ok appended then text ++ bytes else text) → OnOk appended (items_of new marks ≡ before ++ map Text bytes)
items_of-grown (Ok value) text new bytes marks before stands old now = rw (now, ← old) (items_of-append text bytes marks stands)
items_of-grown (Err error) text new bytes marks before stands old now = tt

-- what is said where there was no refusal
pub unrefused : {A E P : Type 0} (r : Result A E) → false ≡ is_err r → OnOk r P → P
unrefused (Ok value) fine holds = holds
unrefused (Err error) fine holds = absurd (grind (arith, fine))

-- ---- what items count

pub size-append : (xs ys : List Item) → size (xs ++ ys) ≡ size xs + size ys
size-append [] ys = omega arith
size-append (Text byte ∷ xs) ys = rw (size-append xs ys) (omega arith)
size-append (Status status ∷ xs) ys = rw (size-append xs ys) (omega arith)

pub size-map : (text : List ℕ) → size (map Text text) ≡ length text
size-map [] = refl
size-map (byte ∷ text) = rw (size-map text) (omega arith)

-- the bytes of text, and what the status lines count
pub size-items : (text : List ℕ) (marks : List Mark) → size (items_of text marks) ≡ length text + size_of_lines marks
size-items text [] = rw (size-map text) (omega arith)
size-items text (mark ∷ older) =
    let halves = sym (length-append (take mark.place text) (drop mark.place text)) ∙ ap (λ (l : List ℕ). length l) (take-append-drop mark.place text) in
    size-append (items_of (take mark.place text) older) (Status mark.status ∷ map Text (drop mark.place text))
    ∙ rw (size-items (take mark.place text) older, size-map (drop mark.place text)) (omega (arith, halves))

-- nothing is held where there is no text and no status line
pub some-held : (text : List ℕ) (marks : List Mark) → items_of text marks ≡ [] → (length text ≡ 0) × (length marks ≡ 0)
some-held [] [] empty = (refl, refl)
some-held (byte ∷ text) [] empty = absurd cc
some-held text (mark ∷ marks) empty =
    let counts = sym (size-items text (mark ∷ marks)) ∙ ap size empty in
    absurd (omega (arith, counts))

-- so something is held where there is text, or a status line
pub some_text : (text : List ℕ) (marks : List Mark) (before : List Item) → items_of text marks ≡ before → length text ≢ 0 → before ≢ []
some_text text marks before old some e = some (some-held text marks (old ∙ e)).0

pub some_line : (text : List ℕ) (marks : List Mark) (before : List Item) → items_of text marks ≡ before → length marks ≢ 0 → before ≢ []
some_line text marks before old some e = some (some-held text marks (old ∙ e)).1

-- ---- the bound

-- what isn't refused is nothing, or comes where nothing is held, or is within the bound
pub taken : (text : List ℕ) (marks : List Mark) (before : List Item) (count most text_most : ℕ) (passes : Bool) → items_of text marks ≡ before → text_most ≡ most - size_of_lines marks → (IsFalse passes → count ≤ text_most - length text) → IsFalse passes ⊎ ((count ≡ 0) ⊎ (before ≡ [])) → (before ≡ []) ⊎ ((count ≡ 0) ⊎ (size before + count ≤ most))
taken text marks before zero most text_most passes old is least told = inr (inl refl)
taken text marks before (suc count) most text_most passes old is least (inl fits) =
    let below = least fits in
    inr (inr (rw (← old, size-items text marks) (omega (arith, is, below))))
taken text marks before (suc count) most text_most passes old is least (inr (inl none)) = inr (inl none)
taken text marks before (suc count) most text_most passes old is least (inr (inr nothing)) = inl nothing

-- for what is refused there is no room
pub no_room : (text : List ℕ) (marks : List Mark) (before : List Item) (count most text_most memory : ℕ) → items_of text marks ≡ before → text_most ≡ most - size_of_lines marks → text_most - length text < count → before ≢ [] → room_beside before memory most < count
no_room text marks [] count most text_most memory old is passes held = absurd (held refl)
no_room text marks (item ∷ items) count most text_most memory old is passes held =
    let counts = sym (size-items text marks) ∙ ap size old in
    let least = min-le_right memory (most - size (item ∷ items)) in
    omega (arith, least, counts, is, passes)

-- there is room for what isn't refused, where memory has it
pub is_room : (before : List Item) (count most memory : ℕ) → count ≤ memory → (before ≡ []) ⊎ ((count ≡ 0) ⊎ (size before + count ≤ most)) → count ≤ room_beside before memory most
is_room [] count most memory has fits = has
is_room (item ∷ items) count most memory has (inl nothing) = absurd cc
is_room (item ∷ items) count most memory has (inr (inl none)) = omega (arith, none)
is_room (item ∷ items) count most memory has (inr (inr within)) =
    let left : count ≤ most - size (item ∷ items) = omega (arith, within) in
    le-min has left

-- and so much is taken for which there is room
pub roomy : (before : List Item) (count most memory : ℕ) → count ≤ room_beside before memory most → (before ≡ []) ⊎ ((count ≡ 0) ⊎ (size before + count ≤ most))
roomy [] count most memory room = inl refl
roomy (item ∷ items) zero most memory room = inr (inl refl)
roomy (item ∷ items) (suc count) most memory room =
    let least = min-le_right memory (most - size (item ∷ items)) in
    inr (inr (omega (arith, room, least)))

-- text that was taken passes no bound, but where nothing was held
pub bounded-grown : {A E : Type 0} (appended : Result A E) (text new bytes : List ℕ) (marks : List Mark) (before : List Item) (most : ℕ) → items_of text marks ≡ before → new ≡ (if is_ok appended then text ++ bytes else text) → (before ≡ []) ⊎ ((length bytes ≡ 0) ⊎ (size before + length bytes ≤ most)) → (items_of new marks ≡ before) ⊎ ((before ≡ []) ⊎ (size (items_of new marks) ≤ most))
bounded-grown (Err error) text new bytes marks before most old now fits = inl (rw now old)
bounded-grown (Ok value) text new bytes marks before most old now (inl nothing) = inr (inl nothing)
bounded-grown (Ok value) text new [] marks before most old now (inr (inl none)) = inl (rw (now, append-nil text) old)
bounded-grown (Ok value) text new (byte ∷ bytes) marks before most old now (inr (inl none)) = absurd (omega (arith, none))
bounded-grown (Ok value) text new bytes marks before most old now (inr (inr within)) =
    let counts = sym (size-items text marks) ∙ ap size old in
    let longer = length-append text bytes in
    inr (inr (rw (now, size-items (text ++ bytes) marks) (omega (arith, counts, longer, within))))

-- and neither does a status line
pub bounded-line : (text : List ℕ) (marks : List Mark) (mark : Mark) (before : List Item) (count most : ℕ) → items_of text marks ≡ before → count ≡ 64 + length mark.status.name → (before ≡ []) ⊎ ((count ≡ 0) ⊎ (size before + count ≤ most)) → (items_of text (mark ∷ marks) ≡ before) ⊎ ((before ≡ []) ⊎ (size (items_of text (mark ∷ marks)) ≤ most))
bounded-line text marks mark before count most old is (inl nothing) = inr (inl nothing)
bounded-line text marks mark before count most old is (inr (inl none)) = absurd (omega (arith, is, none))
bounded-line text marks mark before count most old is (inr (inr within)) =
    let counts = sym (size-items text marks) ∙ ap size old in
    inr (inr (rw (size-items text (mark ∷ marks)) (omega (arith, counts, is, within))))

-- what follows where there was no refusal
pub reserved : {A E : Type 0} (r : Result A E) (P Q : Type 0) → OnOk r P → (P → Q) → OnOk r Q
reserved (Ok value) P Q holds so = so holds
reserved (Err error) P Q holds so = tt
