-- What is shown of items up to a status line, and with it.
use Rattle.std.proofs.Common.{◌≡◌, ℕ, ◌+◌, ◌-◌, ◌≤◌, ◌<◌, List, [], ◌∷◌, ◌++◌, length, map, take, drop, get_or, refl, sym, ap, ◌∙◌, subst, arith}
use Rattle.std.specs.Prelude.{Bool, Option, reverse, slice_range}
use Rattle.std.proofs.lemmas.List.{append_assoc, append-nil, length-take-le, reverse-append, take-append-drop, take-take, take_more, take_all, drop_all}
use Rattle.std.proofs.Math.Seq.{take-add}
use Rattle.zfault.specs.Devices.{BreaksOff}
use Rattle.zfault.proofs.DeviceLemmas.{BreaksOff-append}
use Rattle.zfault.specs.declared.item.Item.{Item}
use Rattle.zfault.specs.declared.item.Item.TheVariants.{Text, Status}
use Rattle.zfault.specs.declared.items.Mark.{Mark}
use Rattle.zfault.specs.Items.{StandWithin, items_of, text_of}
use Rattle.zfault.proofs.ItemLemmas.{items_of-append, StandWithin-more}
use Rattle.zscreen.specs.declared.status_lines.StatusLines.{StatusLines}
use Rattle.zscreen.specs.declared.status_lines.StatusLines.TheVariants.{Hidden}
use Rattle.zscreen.specs.Rendering.{render, status_shown}
use Rattle.zscreen.proofs.Joins.{renders}

-- with no status lines, the bytes of all items are their text
pub renders_text : (given : List Item) → text_of given ≡ render Hidden given
renders_text [] = refl
renders_text (Text byte ∷ given) = ap (λ (bytes : List ℕ). byte ∷ bytes) (renders_text given)
renders_text (Status status ∷ given) = renders_text given

-- text is its bytes
renders_bytes : (asked : StatusLines) (bytes : List ℕ) → render asked (map Text bytes) ≡ bytes
renders_bytes asked [] = refl
renders_bytes asked (byte ∷ bytes) = ap (λ (rest : List ℕ). byte ∷ rest) (renders_bytes asked bytes)

-- where the newest of some status lines stands
abbrev pub newest_place : List Mark → ℕ
newest_place [] = 0
newest_place (mark ∷ older) = mark.place

-- what is shown up to a place
abbrev pub shown_to : StatusLines → List ℕ → ℕ → List Mark → List ℕ
shown_to lines text place marks = render lines (items_of (take place text) marks)

newest_before : (end : ℕ) (marks : List Mark) → StandWithin end marks → newest_place marks ≤ end
newest_before end [] stands = omega arith
newest_before end (mark ∷ older) stands = stands.0

newest_stands : (end : ℕ) (marks : List Mark) → StandWithin end marks → StandWithin (newest_place marks) marks
newest_stands end [] stands = tt
newest_stands end (mark ∷ older) stands = (omega arith, stands.1)

-- of status lines, newest first, each has the older ones before it, and stands no later than the text ends
stands_between : (end : ℕ) (newer older : List Mark) → StandWithin end (newer ++ older) → StandWithin end older
stands_between end [] older stands = stands
stands_between end (first ∷ newer) older stands = StandWithin-more first.place end older (stands_between first.place newer older stands.1) stands.0

-- text behind status lines is shown behind them
text_behind : (lines : StatusLines) (text more : List ℕ) (marks : List Mark) → StandWithin (length text) marks → render lines (items_of (text ++ more) marks) ≡ render lines (items_of text marks) ++ more
text_behind lines text more marks stands =
    ap (render lines) (items_of-append text more marks stands)
    ∙ renders lines (items_of text marks) (map Text more)
    ∙ ap (λ (bytes : List ℕ). render lines (items_of text marks) ++ bytes) (renders_bytes lines more)

-- from the newest status line up to a place
pub shown_further : (lines : StatusLines) (text : List ℕ) (from to : ℕ) (marks : List Mark) → StandWithin from marks → from ≤ to → to ≤ length text → shown_to lines text to marks ≡ shown_to lines text from marks ++ take (to - from) (drop from text)
shown_further lines text from to marks stands below within =
    let place : length (take from text) ≡ from = length-take-le from text (omega (arith, below, within)) in
    let all : from + (to - from) ≡ to = omega (arith, below) in
    let cut : take to text ≡ take from text ++ take (to - from) (drop from text) = ap (λ (n : ℕ). take n text) (sym all) ∙ take-add from (to - from) text in
    ap (λ (bytes : List ℕ). render lines (items_of bytes marks)) cut
    ∙ text_behind lines (take from text) (take (to - from) (drop from text)) marks (subst (λ (n : ℕ). StandWithin n marks) (sym place) stands)

-- a status line with the text before it
pub shown_with : (lines : StatusLines) (text : List ℕ) (mark : Mark) (older : List Mark) → mark.place ≤ length text → shown_to lines text mark.place (mark ∷ older) ≡ shown_to lines text mark.place older ++ status_shown lines mark.status
shown_with lines text mark older within =
    let front = take mark.place text in
    let place : length front ≡ mark.place = length-take-le mark.place text within in
    let same : take mark.place front ≡ front = take_all mark.place front (omega (arith, place)) in
    let none : drop mark.place front ≡ [] = drop_all mark.place front (omega (arith, place)) in
    rw (same, none) (renders lines (items_of front older) (Status mark.status ∷ []) ∙ ap (λ (bytes : List ℕ). render lines (items_of front older) ++ bytes) (append-nil (status_shown lines mark.status)))

-- what is shown up to the newest of the older status lines begins what is shown of all
pub begins_all : (lines : StatusLines) (a b : Option (List ℕ)) (u v : Bool) (text : List ℕ) (newer older : List Mark) → StandWithin (length text) (newer ++ older) → BreaksOff a b u v (shown_to lines text (newest_place older) older) → BreaksOff a b u v (render lines (items_of text (newer ++ older)))
begins_all lines a b u v text [] older stands begun =
    let n = newest_place older in
    let below : n ≤ length text = newest_before (length text) older stands in
    let more = shown_further lines text n (length text) older (newest_stands (length text) older stands) below (omega arith) in
    let whole : take (length text) text ≡ text = take_all (length text) text (omega arith) in
    subst (λ (bytes : List ℕ). BreaksOff a b u v (render lines (items_of bytes older))) whole (subst (BreaksOff a b u v) (sym more) (BreaksOff-append a b u v (shown_to lines text n older) (take (length text - n) (drop n text)) begun))
begins_all lines a b u v text (mark ∷ newer) older stands begun =
    let front = take mark.place text in
    let n = newest_place older in
    let place : length front ≡ mark.place = length-take-le mark.place text stands.0 in
    let below : n ≤ mark.place = newest_before mark.place older (stands_between mark.place newer older stands.1) in
    let same : take n front ≡ take n text = take-take n mark.place text below in
    let inner : BreaksOff a b u v (render lines (items_of front (newer ++ older))) = begins_all lines a b u v front newer older (subst (λ (k : ℕ). StandWithin k (newer ++ older)) (sym place) stands.1) (subst (λ (bytes : List ℕ). BreaksOff a b u v (render lines (items_of bytes older))) (sym same) begun) in
    let behind = Status mark.status ∷ map Text (drop mark.place text) in
    subst (BreaksOff a b u v) (sym (renders lines (items_of front (newer ++ older)) behind)) (BreaksOff-append a b u v (render lines (items_of front (newer ++ older))) (render lines behind) inner)

-- ---- the status lines as they are gone through, oldest first

-- those before the one at an index, newest first
abbrev pub before : ℕ → List Mark → List Mark
before i marks = reverse (take i marks)

one_more : (marks : List Mark) (i : ℕ) (d : Mark) → i < length marks → before (i + 1) marks ≡ get_or marks i d ∷ before i marks
one_more marks i d here = ap reverse (take_more marks i d here) ∙ reverse-append (take i marks) (get_or marks i d ∷ [])

split_at : (marks : List Mark) (i : ℕ) → reverse marks ≡ reverse (drop i marks) ++ before i marks
split_at marks i = ap reverse (sym (take-append-drop i marks)) ∙ reverse-append (take i marks) (drop i marks)

stands_before : (end : ℕ) (marks : List Mark) (i : ℕ) → StandWithin end (reverse marks) → StandWithin end (before i marks)
stands_before end marks i stands = stands_between end (reverse (drop i marks)) (before i marks) (subst (StandWithin end) (split_at marks i) stands)

-- where a text is that of some items, status lines stand in it and make the items of it
pub stands_in : (text : List ℕ) (given : List Item) (marks : List Mark) → text ≡ text_of given → StandWithin (length (text_of given)) marks → StandWithin (length text) marks
stands_in text given marks same stands = subst (λ (bytes : List ℕ). StandWithin (length bytes) marks) (sym same) stands

pub items_in : (text : List ℕ) (given : List Item) (marks : List Mark) → text ≡ text_of given → given ≡ items_of (text_of given) marks → items_of text marks ≡ given
items_in text given marks same made = ap (λ (bytes : List ℕ). items_of bytes marks) same ∙ sym made

-- the status line at an index, with the text before it
module _ (text : List ℕ) (marks : List Mark) (i : ℕ) (mark : Mark) (here : i < length marks) (is : mark ≡ get_or marks i mark) (stands : StandWithin (length text) (reverse marks)) where
  next : before (i + 1) marks ≡ mark ∷ before i marks
  next = one_more marks i mark here ∙ ap (λ (m : Mark). m ∷ before i marks) (sym is)

  there : StandWithin (length text) (mark ∷ before i marks)
  there = subst (StandWithin (length text)) next (stands_before (length text) marks (i + 1) stands)

  pub next_within : mark.place ≤ length text
  next_within = there.0

  pub next_behind : newest_place (before i marks) ≤ mark.place
  next_behind = newest_before mark.place (before i marks) there.1

  pub next_place : mark.place ≡ newest_place (before (i + 1) marks)
  next_place = ap newest_place (sym next)

  pub next_shown : (lines : StatusLines) (from : ℕ) → from ≡ newest_place (before i marks) → shown_to lines text from (before i marks) ++ (slice_range text from mark.place ++ status_shown lines mark.status) ≡ shown_to lines text mark.place (before (i + 1) marks)
  next_shown lines from newest =
      let below : from ≤ mark.place = omega (arith, newest, next_behind) in
      let older : StandWithin from (before i marks) = subst (λ (n : ℕ). StandWithin n (before i marks)) (sym newest) (newest_stands mark.place (before i marks) there.1) in
      sym (append_assoc (shown_to lines text from (before i marks)) (slice_range text from mark.place) (status_shown lines mark.status))
      ∙ ap (λ (bytes : List ℕ). bytes ++ status_shown lines mark.status) (sym (shown_further lines text from mark.place (before i marks) older below there.0))
      ∙ sym (shown_with lines text mark (before i marks) there.0)
      ∙ ap (shown_to lines text mark.place) (sym next)

  pub next_begins : (lines : StatusLines) (a b : Option (List ℕ)) (u v : Bool) → BreaksOff a b u v (shown_to lines text mark.place (before (i + 1) marks)) → BreaksOff a b u v (render lines (items_of text (reverse marks)))
  next_begins lines a b u v begun =
      let split = split_at marks (i + 1) in
      let at_newest = subst (λ (n : ℕ). BreaksOff a b u v (shown_to lines text n (before (i + 1) marks))) next_place begun in
      subst (λ (all : List Mark). BreaksOff a b u v (render lines (items_of text all))) (sym split) (begins_all lines a b u v text (reverse (drop (i + 1) marks)) (before (i + 1) marks) (subst (StandWithin (length text)) split stands) at_newest)

-- behind the last of them
pub all_shown : (lines : StatusLines) (text : List ℕ) (marks : List Mark) (i from : ℕ) → length marks ≤ i → StandWithin (length text) (reverse marks) → from ≡ newest_place (before i marks) → shown_to lines text from (before i marks) ++ take (length text - from) (drop from text) ≡ render lines (items_of text (reverse marks))
all_shown lines text marks i from done stands newest =
    let all : before i marks ≡ reverse marks = ap reverse (take_all i marks done) in
    let older = stands_before (length text) marks i stands in
    let below : from ≤ length text = omega (arith, newest, newest_before (length text) (before i marks) older) in
    let at : StandWithin from (before i marks) = subst (λ (n : ℕ). StandWithin n (before i marks)) (sym newest) (newest_stands (length text) (before i marks) older) in
    sym (shown_further lines text from (length text) (before i marks) at below (omega arith))
    ∙ ap (λ (bytes : List ℕ). render lines (items_of bytes (before i marks))) (take_all (length text) text (omega arith))
    ∙ ap (λ (older : List Mark). render lines (items_of text older)) all
