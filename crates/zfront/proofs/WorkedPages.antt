-- Values of the definitions of pages, computed.
use Rattle.std.proofs.Common.{◌≡◌, ℕ, ◌≤◌, Bool, true, false, Some, None, inl, inr, [], ◌∷◌, length, Result, Ok, Err, refl, ap, arith}
use Rattle.std.specs.Prelude.{codes}
use Rattle.std.proofs.lemmas.List.Elements.{All-cons, All-nil}
use Rattle.zfront.specs.Pages.{Paging, BeginsPage, IsPaged, IsPaging, ShowsNone, ShowsPiece, StopsOrEnds, StopsShort, TurnsPage, behind_stops, ends_in, first_page, from_first, on_page, page_front, paged, paged_here, shown_behind, stop_at, stop_here}
use Rattle.zfront.specs.PagedSinks.{BeginsHere, ShowsHere, ShowsNoneHere, begins_with, known_bytes}

-- a page of 3 lines, of which so many were shown, and one that doesn't stop
abbrev of_three : ℕ → Bool → Paging
of_three shown stops = record { lines = 3; shown = shown; stops = stops }

outcome : Bool → Result Unit ℕ
outcome true = Ok tt
outcome false = Err 0

-- ---- lines

-- an end of line is byte 10 alone
ended : (ends_in [] ≡ 0) × (ends_in (codes "a\n\nb") ≡ 2) × (ends_in (9 ∷ 11 ∷ 13 ∷ []) ≡ 0)
ended = (refl, refl, refl)

-- behind a full page the next byte is on a new one, behind a stop; and not before
turned : (on_page 3 2 ≡ 2) × (on_page 3 3 ≡ 0) × (stop_at 3 2 ≡ []) × (stop_at 3 3 ≡ codes "[more]\u{1b}[A\r\u{1b}[K")
turned = (refl, refl, refl, refl)

counted : (shown_behind 3 1 [] ≡ 1) × (shown_behind 3 1 (codes "a\nb\n") ≡ 3) × (shown_behind 3 3 (codes "a") ≡ 0) × (shown_behind 3 3 (codes "a\n") ≡ 1) × (shown_behind 3 2 (codes "\n\n") ≡ 1)
counted = (refl, refl, refl, refl, refl)

-- a text stops where more comes behind a full page, and not at its end
stops : (paged 2 0 (codes "a\nb\n") ≡ codes "a\nb\n") × (paged 2 0 (codes "a\nb\nc") ≡ codes "a\nb\n[more]\u{1b}[A\r\u{1b}[Kc") × (paged 2 1 (codes "\n\n\n\n") ≡ codes "\n[more]\u{1b}[A\r\u{1b}[K\n\n[more]\u{1b}[A\r\u{1b}[K\n")
stops = (refl, refl, refl)

-- as much as goes onto a page
fronts : (page_front 2 [] ≡ []) × (page_front 0 (codes "a") ≡ []) × (page_front 1 (codes "a\nb") ≡ codes "a\n") × (page_front 2 (codes "a\nb") ≡ codes "a\nb") × (page_front 2 (codes "\n\n\n") ≡ codes "\n\n")
fronts = (refl, refl, refl, refl, refl)

-- the parts of a text, each behind a stop
parted : (behind_stops [] ≡ []) × (behind_stops (codes "a" ∷ codes "b" ∷ []) ≡ codes "[more]\u{1b}[A\r\u{1b}[Ka[more]\u{1b}[A\r\u{1b}[Kb") × IsPaged 1 (codes "a\nb\n") (codes "a\n[more]\u{1b}[A\r\u{1b}[Kb\n")
parted = (
  refl,
  refl,
  record {
    first = codes "a\n";
    others = codes "b\n" ∷ [];
    whole = refl;
    stopped = refl;
    short = omega arith;
    others_short = All-cons (λ part. ends_in part ≤ 1) (codes "b\n") [] (omega arith) (All-nil (λ part. ends_in part ≤ 1));
  },
)

-- ---- a page

pages : (first_page 25 ≡ record { lines = 24; shown = 0; stops = true }) × (from_first (of_three 2 false) ≡ of_three 0 false) × (stop_here (of_three 3 true) ≡ stop_at 3 3) × (stop_here (of_three 3 false) ≡ []) × (paged_here (of_three 3 true) (codes "a") ≡ codes "[more]\u{1b}[A\r\u{1b}[Ka") × (paged_here (of_three 3 false) (codes "a") ≡ codes "a")
pages = (refl, refl, refl, refl, refl, refl)

-- a page has a line, and no more were shown than it has
bounds : IsPaging 1 1 × (IsPaging 0 0 → ⊥) × (IsPaging 3 4 → ⊥)
bounds = ((omega arith, omega arith), λ p. omega (arith, p.0), λ p. omega (arith, p.1))

-- it stops as before, or, behind a full page alone, no more
ends : StopsOrEnds (of_three 2 true) (of_three 3 true) × StopsOrEnds (of_three 3 true) (of_three 0 false) × (StopsOrEnds (of_three 2 true) (of_three 3 false) → ⊥)
ends = (inl refl, inr (omega arith, refl), not)
  where
    not : StopsOrEnds (of_three 2 true) (of_three 3 false) → ⊥
    not (inl e) = absurd cc
    not (inr (full, e)) = omega (arith, full)

-- a stop, and what broke off of one
stopped : TurnsPage (Some (codes "a")) (Some (codes "a[more]\u{1b}[A\r\u{1b}[K")) (of_three 3 true) (of_three 0 true) × StopsShort (Some (codes "a")) (Some (codes "a[mo")) (of_three 3 true) (of_three 3 true) × ShowsNone (Some []) (Some []) (of_three 2 true) (of_three 2 true)
stopped = (record { grown = refl; lines = refl; shown = refl; stops = inl refl }, record { given = codes "[mo"; left = codes "re]\u{1b}[A\r\u{1b}[K"; whole = refl; grown = refl; same = refl }, inl (record { given = []; left = []; whole = refl; grown = refl; same = refl }))

-- a piece behind a stop, and one with none, since keys ended
shown : ShowsPiece (Some []) (Some (codes "[more]\u{1b}[A\r\u{1b}[Ka\n")) (of_three 3 true) (of_three 1 true) (codes "a\n") × ShowsPiece (Some []) (Some (codes "a\n")) (of_three 3 false) (of_three 1 false) (codes "a\n")
shown = (record { grown = refl; lines = refl; shown = refl; stops = inl refl }, record { grown = refl; lines = refl; shown = refl; stops = inl refl })

begins : BeginsPage (of_three 3 true) (of_three 0 true) (outcome true) × BeginsPage (of_three 3 true) (of_three 3 true) (outcome false) × (BeginsPage (of_three 3 true) (of_three 3 true) (outcome true) → ⊥)
unfolding outcome
begins = (refl, refl, λ e. omega (arith, ap (λ (page : Paging). page.shown) e))

-- ---- a sink with pages or without

begins_so : (begins_with {S = ℕ} None 25 ≡ None) × (begins_with {S = ℕ} (Some 0) 2 ≡ None) × (begins_with {S = ℕ} (Some 0) 3 ≡ Some (first_page 3))
begins_so = (refl, refl, refl)

known : (known_bytes None (Some (codes "a")) ≡ Some (codes "a")) × (known_bytes (Some (of_three 0 true)) (Some (codes "a")) ≡ None)
known = (refl, refl)

-- with no pages a piece is below as it is; and there are pages before and behind a call, or at neither
here : ShowsHere (Some []) (Some (codes "a")) None None (codes "a") × (ShowsHere (Some []) (Some []) None None (codes "a") → ⊥) × (ShowsHere None None None (Some (of_three 0 true)) [] → ⊥) × (ShowsHere None None (Some (of_three 0 true)) None [] → ⊥)
here = (refl, λ p. omega (arith, ap length p), λ p. p, λ p. p)

none_here : ShowsNoneHere (Some []) (Some []) None None × (ShowsNoneHere (Some []) (Some (codes "a")) None None → ⊥) × ShowsNoneHere (Some []) (Some (codes "[")) (Some (of_three 3 true)) (Some (of_three 3 true))
none_here = (refl, λ p. omega (arith, ap length p), inl (record { given = codes "["; left = codes "more]\u{1b}[A\r\u{1b}[K"; whole = refl; grown = refl; same = refl }))

begins_here : BeginsHere None None (outcome true) × BeginsHere (Some (of_three 3 true)) (Some (of_three 0 true)) (outcome true) × (BeginsHere None (Some (of_three 0 true)) (outcome true) → ⊥)
unfolding outcome
begins_here = (tt, refl, λ p. p)
