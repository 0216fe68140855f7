-- Pieces of a text that stops behind each page.
use Rattle.std.proofs.Common.{◌≡◌, ℕ, zero, get_or, suc, ◌+◌, ◌-◌, ◌<◌, ◌≤◌, Bool, true, false, inl, inr, List, [], ◌∷◌, ◌++◌, length, take, drop, refl, sym, ap, ◌∙◌, subst, add-zero, arith}
use Rattle.std.specs.Prelude.{◌==◌, cond, if◌then◌else◌, nat_lt, Option}
use Rattle.std.specs.Io.KnownBytes.{Appends}
use Rattle.std.proofs.lemmas.Bool.{lt-ltb}
use Rattle.std.proofs.KnownBytes.{Appends-trans}
use Rattle.std.proofs.lemmas.List.{length-take, take-append-drop}
use Rattle.std.proofs.lemmas.List.Recursion.{is_count_by}
use Rattle.zfault.specs.Devices.{AppendsBeginning}
use Rattle.zfront.specs.Pages.{Paging, TurnsPage, ShowsPiece, StopsShort, StopsOrEnds, more, erased, ends_in, on_page, stop_at, stop_here, shown_behind, paged, page_front}

-- ends of lines, counted from behind
abbrev pub ends : List ℕ → ℕ
ends [] = 0
ends (byte ∷ rest) = cond (byte == 10) (1 + ends rest) (ends rest)

pub ends_are : (bytes : List ℕ) → ends bytes ≡ ends_in bytes
ends_are bytes = is_count_by ends (λ byte. byte == 10) refl (λ byte. λ rest. refl) bytes

-- what goes onto a page that has room for so many lines
pub record Fronts (lines before room : ℕ) (bytes : List ℕ) : Type 0 where
  pub within : ends bytes ≤ room
  pub same : paged lines before bytes ≡ bytes
  pub behind : shown_behind lines before bytes ≡ before + ends bytes

none_fronts : (lines before room : ℕ) → Fronts lines before room []
none_fronts lines before room = record { within = omega arith; same = refl; behind = omega arith }

-- a byte in front of such
letter_fronts : (lines before room byte : ℕ) (bytes : List ℕ) → (byte == 10) ≡ false → before + room ≡ lines → 0 < room → Fronts lines before room bytes → Fronts lines before room (byte ∷ bytes)
letter_fronts lines before room byte bytes letter sum some fronts =
    let lt : nat_lt before lines ≡ true = lt-ltb before lines (omega arith) in
    record {
      within = rw letter (fronts.within);
      same = rw (lt, letter, add-zero before) (ap (λ (b : List ℕ). byte ∷ b) fronts.same);
      behind = rw (lt, letter, add-zero before) fronts.behind;
    }

end_fronts : (lines before room byte : ℕ) (bytes : List ℕ) → (byte == 10) ≡ true → before + suc room ≡ lines → Fronts lines (before + 1) room bytes → Fronts lines before (suc room) (byte ∷ bytes)
end_fronts lines before room byte bytes end sum fronts =
    let lt : nat_lt before lines ≡ true = lt-ltb before lines (omega arith) in
    record {
      within = rw end (omega (arith, fronts.within));
      same = rw (lt, end) (ap (λ (b : List ℕ). byte ∷ b) fronts.same);
      behind = rw (lt, end) (fronts.behind ∙ add_one before (ends bytes));
    }
  where
    add_one : (m n : ℕ) → m + 1 + n ≡ m + (1 + n)
    add_one m n = omega arith

-- with no room, nothing goes
full_fronts : (lines before : ℕ) (rest : List ℕ) (k : ℕ) → k ≤ length (page_front zero rest) → Fronts lines before zero (take k rest)
full_fronts lines before [] zero within = none_fronts lines before zero
full_fronts lines before [] (suc k) within = none_fronts lines before zero
full_fronts lines before (byte ∷ rest) zero within = none_fronts lines before zero
full_fronts lines before (byte ∷ rest) (suc k) within = absurd (omega (arith, within))

pub front : (lines before room : ℕ) (piece : List ℕ) (k : ℕ) → before + room ≡ lines → 0 < room → k ≤ length (page_front room piece) → Fronts lines before room (take k piece)
front lines before room [] zero sum some within = none_fronts lines before room
front lines before room [] (suc k) sum some within = none_fronts lines before room
front lines before room (byte ∷ rest) zero sum some within = none_fronts lines before room
front lines before zero (byte ∷ rest) (suc k) sum some within = absurd (omega (arith, some))
front lines before (suc room) (byte ∷ rest) (suc k) sum some within =
    parts (byte == 10) refl room sum within (λ r. λ b. front lines b r rest k)
  where
    parts : (t : Bool) → (byte == 10) ≡ t → (room : ℕ) → before + suc room ≡ lines → suc k ≤ suc (length (page_front (if t then room else suc room) rest))
        → ((r b : ℕ) → b + r ≡ lines → 0 < r → k ≤ length (page_front r rest) → Fronts lines b r (take k rest)) → Fronts lines before (suc room) (byte ∷ take k rest)
    parts false e room sum within more = letter_fronts lines before (suc room) byte (take k rest) e sum (omega arith) (more (suc room) before sum (omega arith) (omega (arith, within)))
    parts true e zero sum within more = end_fronts lines before zero byte (take k rest) e sum (full_fronts lines (before + 1) rest k (omega (arith, within)))
    parts true e (suc room) sum within more = end_fronts lines before (suc room) byte (take k rest) e sum (more (suc room) (before + 1) (omega (arith, sum)) (omega arith) (omega (arith, within)))

-- how much goes onto a page with room for one line, from an end of line on
pub last_line : (left : ℕ) (piece : List ℕ) (at : ℕ) → at < length piece → get_or piece at 0 ≡ 10 → 0 < left → left - 1 ≡ 0 → length (page_front left (drop at piece)) ≡ 1
last_line left [] at within end some last = absurd (omega (arith, within))
last_line left (byte ∷ rest) (suc at) within end some last = last_line left rest at (omega (arith, within)) end some last
last_line zero (byte ∷ rest) zero within end some last = absurd (omega (arith, some))
last_line (suc (suc left)) (byte ∷ rest) zero within end some last = absurd (omega (arith, last))
last_line (suc zero) (byte ∷ rest) zero within end some last = rw end (one rest)
  where
    one : (rest : List ℕ) → suc (length (page_front zero rest)) ≡ 1
    one [] = refl
    one (byte ∷ rest) = refl

-- a stop that broke off
pub breaks_short : (a b : Option (List ℕ)) (page : Paging) → page.stops ≡ true → nat_lt page.shown page.lines ≡ false → AppendsBeginning a b (more ++ erased) → StopsShort a b page page
breaks_short a b page stops full begun = record {
  given = take begun.taken (more ++ erased);
  left = drop begun.taken (more ++ erased);
  whole = rw (stops, full) (sym (take-append-drop begun.taken (more ++ erased)));
  grown = begun.grown;
  same = refl;
}

-- a page that was turned goes on as the one before
turned_on : (lines before shown byte : ℕ) (rest : List ℕ) → shown ≡ on_page lines before → shown < lines
    → (paged lines before (byte ∷ rest) ≡ stop_at lines before ++ paged lines shown (byte ∷ rest)) × (shown_behind lines before (byte ∷ rest) ≡ shown_behind lines shown (byte ∷ rest))
turned_on lines before shown byte rest same room =
    let lt : nat_lt shown lines ≡ true = lt-ltb shown lines room in
    (rw lt (ap (λ (n : ℕ). stop_at lines before ++ byte ∷ paged lines (n + (if byte == 10 then 1 else 0)) rest) (sym same)), rw lt (ap (λ (n : ℕ). shown_behind lines (n + (if byte == 10 then 1 else 0)) rest) (sym same)))

-- bytes that go onto a page behind a stop, or with none
shows_bytes : (a b c : Option (List ℕ)) (before page after : Paging) (bytes : List ℕ) → TurnsPage a b before page → page.shown < page.lines → Fronts page.lines page.shown (page.lines - page.shown) bytes → Appends b c bytes
    → after.lines ≡ page.lines → after.shown ≡ page.shown + ends_in bytes → after.stops ≡ page.stops → 0 < length bytes → ShowsPiece a c before after bytes
shows_bytes a b c before page after [] turns room fronts grown lines shown stops some = absurd (omega (arith, some))
shows_bytes a b c before page after (byte ∷ rest) turns room fronts grown lines shown stops some =
    let here : page.lines ≡ before.lines = turns.lines in
    let on : (paged before.lines before.shown (byte ∷ rest) ≡ stop_at before.lines before.shown ++ paged before.lines page.shown (byte ∷ rest)) × (shown_behind before.lines before.shown (byte ∷ rest) ≡ shown_behind before.lines page.shown (byte ∷ rest))
    = turned_on before.lines before.shown page.shown byte rest turns.shown (subst (λ (n : ℕ). page.shown < n) here room) in
    let same : paged before.lines page.shown (byte ∷ rest) ≡ byte ∷ rest = subst (λ (n : ℕ). paged n page.shown (byte ∷ rest) ≡ byte ∷ rest) here fronts.same in
    let behind : shown_behind before.lines page.shown (byte ∷ rest) ≡ page.shown + ends (byte ∷ rest) = subst (λ (n : ℕ). shown_behind n page.shown (byte ∷ rest) ≡ page.shown + ends (byte ∷ rest)) here fronts.behind in
    record {
      grown = subst (λ (given : List ℕ). Appends a c given) (sym (whole before.stops (on.0 ∙ ap (λ (b : List ℕ). stop_at before.lines before.shown ++ b) same))) (Appends-trans a b c (stop_here before) (byte ∷ rest) turns.grown grown);
      lines = lines ∙ here;
      shown = shown ∙ ap (λ (n : ℕ). page.shown + n) (sym (ends_are (byte ∷ rest))) ∙ sym behind ∙ sym on.1;
      stops = still turns.stops stops;
    }
  where
    whole : (t : Bool) → paged before.lines before.shown (byte ∷ rest) ≡ stop_at before.lines before.shown ++ byte ∷ rest
        → (if t then paged before.lines before.shown (byte ∷ rest) else byte ∷ rest) ≡ (if t then stop_at before.lines before.shown else []) ++ byte ∷ rest
    whole true e = e
    whole false e = refl

    still : StopsOrEnds before page → after.stops ≡ page.stops → StopsOrEnds before after
    still (inl as_before) e = inl (e ∙ as_before)
    still (inr (full, ended)) e = inr (full, e ∙ ended)

-- a beginning of a beginning
pub take_short : (count n : ℕ) (piece : List ℕ) → count ≤ n → take count (take n piece) ≡ take count piece
take_short zero n piece short = refl
take_short (suc count) zero piece short = absurd (omega (arith, short))
take_short (suc count) (suc n) [] short = refl
take_short (suc count) (suc n) (byte ∷ rest) short = ap (λ (b : List ℕ). byte ∷ b) (take_short count n rest (omega (arith, short)))

-- so many bytes of the front of a piece
front_of : (lines before n count : ℕ) (piece : List ℕ) → before < lines → n ≡ length (page_front (lines - before) piece) → count ≤ length (take n piece) → (take count (take n piece) ≡ take count piece) × Fronts lines before (lines - before) (take count piece)
front_of lines before n count piece room number within =
    let short : count ≤ n = omega (arith, within, length-take n piece) in
    (take_short count n piece short, front lines before (lines - before) piece count (omega arith) (omega arith) (omega (arith, short, number)))

-- they are no more than the page has room for
pub fits : (page : Paging) (n count : ℕ) (piece : List ℕ) → page.shown < page.lines → n ≡ length (page_front (page.lines - page.shown) piece) → count ≤ length (take n piece) → page.shown + ends_in (take count (take n piece)) ≤ page.lines
fits page n count piece room number within =
    let parts : (take count (take n piece) ≡ take count piece) × Fronts page.lines page.shown (page.lines - page.shown) (take count piece) = front_of page.lines page.shown n count piece room number within in
    rw (parts.0, ← (ends_are (take count piece))) (omega (arith, parts.1.within, room))

-- a piece that was taken behind a stop, or with none
pub shows_piece : (a b c : Option (List ℕ)) (before page after : Paging) (n count : ℕ) (piece : List ℕ) → TurnsPage a b before page → page.shown < page.lines → n ≡ length (page_front (page.lines - page.shown) piece) → count ≤ length (take n piece)
    → (0 < length (take n piece) → 0 < count) → (0 < length piece → 0 < n) → Appends b c (take count (take n piece)) → after.lines ≡ page.lines → after.shown ≡ page.shown + ends_in (take count (take n piece)) → after.stops ≡ page.stops → 0 < length piece
    → ShowsPiece a c before after (take count piece)
shows_piece a b c before page after n count piece turns room number within takes goes grown lines shown stops some =
    let parts : (take count (take n piece) ≡ take count piece) × Fronts page.lines page.shown (page.lines - page.shown) (take count piece) = front_of page.lines page.shown n count piece room number within in
    let there : 0 < length (take n piece) = omega (arith, length-take n piece, goes some, some) in
    let more_than : 0 < length (take count piece) = omega (arith, length-take count piece, takes there, some) in
    shows_bytes a b c before page after (take count piece) turns room parts.1 (subst (λ (given : List ℕ). Appends b c given) parts.0 grown) lines (shown ∙ ap (λ (given : List ℕ). page.shown + ends_in given) parts.0) stops more_than
