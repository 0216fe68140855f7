-- Which subcommand clap enters where it makes matches.
use Rattle.std.proofs.Common.{◌≡◌, ◌∙◌, ◌&&◌, ◌||◌, Bool, true, false, true≢false, not, refl, sym, ap, ap₂, subst, ℕ, ◌⊎◌, inl, inr, List, [], ◌∷◌, ◌++◌, Option, Some, None, if◌then◌else◌}
use Rattle.std.specs.Prelude.{IsErr, IsErrAnd, IsSomeAnd, Result, Ok, Err, codes, fold, find, is_some, option_map, take, unwrap_or}
use Rattle.std.specs.List.{list_any}
use Rattle.std.specs.Str.{bytes_eq}
use Rattle.clap.specs.Facts.{explicit_source}
use Rattle.clap.specs.Takes.{is_given}
use Rattle.std.proofs.lemmas.Slice.Eq.{bytes_eq-Decides}
use Rattle.clap.specs.Lexer.{long_of, short_of}
use Rattle.clap.specs.Kinds.{FailsBy, HasKind, Kinds, check_kinds, or_else}
use Rattle.clap.specs.Walk.{Held, Names, Outcome, Rule, Step, Text, Waiting, Walk, after_flag, after_step, answers_to, arg_by_index, done, finished, idle, long_or_other, next, nothing_held, option, plain, plain_word, positional, refused, settled, short_or_plain, subcommand, subcommand_met, subcommand_or_other, to_positional, trailing, value, waits, walk, walk_from, walked, walked_from, word_met}
use Rattle.clap.specs.Simple.{App, Shape, built, entered, label_of, names_of, rows_at}
use Rattle.clap.specs.Faults.{built_fault, check_fault, defaults_fault, entered_fault, fault_of, is_simple_and_free, other_fault, settle_fault, turn_fault, walk_fault}
use Rattle.clap.specs.declared.error.Error.{Error}
use Rattle.clap.specs.declared.error.kind.ErrorKind.TheVariants as kinds
use Rattle.clap.specs.Words.{HasMatchesOf, Row, app_of, is_simple, subcommand_name_of, subcommand_of, subcommand_rows_of}
use Rattle.clap.specs.declared.builder.command.Command.{Command}
use Rattle.clap.specs.declared.parser.matches.ArgMatches.{ArgMatches}
use Rattle.zcommand.proofs.Matched.{name_first}
use Rattle.zcommand.specs.CommandLine.{IsCommand, zpc_app}

-- where one of two lists of faults would come first, neither holds
neither : (first second : Kinds) → or_else first second ≡ [] → (first ≡ []) × (second ≡ [])
neither [] second e = (refl, e)
neither (k ∷ ks) second e = cc

-- a step that isn't a subcommand
abbrev IsWithin : Step → Type 0
IsWithin (subcommand name) = ⊥
IsWithin _ = Unit {0}

plain_within : (rules : List Rule) (waiting : Waiting) (word : Text) (h : Held) → IsWithin (plain_word rules waiting word h).1
plain_within rules idle word h = tt
plain_within rules (option id) word h = tt
plain_within rules positional word h = tt

flag_within : (rules : List Rule) (waiting : Waiting) (word : Text) (h : Held) (outcome : Outcome) → IsWithin (after_flag rules waiting word h outcome).1
flag_within rules waiting word h done = tt
flag_within rules waiting word h (waits id) = tt
flag_within rules waiting word h plain = plain_within rules waiting word h
flag_within rules waiting word h refused = plain_within rules waiting word h

short_within : (rules : List Rule) (waiting : Waiting) (word : Text) (flags : Option Text) (h : Held) → IsWithin (short_or_plain rules waiting word flags h).1
short_within rules waiting word None h = plain_within rules waiting word h
short_within rules waiting word (Some flags) h = flag_within rules waiting word _ _

other_within : (rules : List Rule) (waiting : Waiting) (word : Text) (name : Option (Text × Option Text)) (h : Held) → IsWithin (long_or_other rules waiting word name h).1
other_within rules waiting word None h = short_within rules waiting word (short_of word) h
other_within rules waiting word (Some name) h = flag_within rules waiting word _ _

-- only a word that names a subcommand stops the walk
stopped_by : (rules : List Rule) (word : Text) (w : Walk) (h : Held) (step : Step) (p : Text × List Text) → w.stopped ≡ None → (after_step rules word w h step).stopped ≡ Some p → step ≡ subcommand p.0
stopped_by rules word w h (next waiting) p going stopped = cc
stopped_by rules word w h (trailing position) p going stopped = cc
stopped_by rules word w h (subcommand name) p going stopped = ap (λ (o : Option (Text × List Text)). option_or o) stopped
  where
    option_or : Option (Text × List Text) → Step
    option_or None = value
    option_or (Some q) = subcommand q.0
stopped_by rules word w h value p going stopped = go (arg_by_index rules w.position) stopped
  where
    go : (found : Option Rule) → (to_positional rules found word w h).stopped ≡ Some p → value ≡ subcommand p.0
    go None e = cc
    go (Some a) e = cc

module _ (s : Shape) (names : Names) (helps : s.disable_help_subcommand ≡ false) where
  -- what a word that stops the walk names isn't `help`, where it has no fault
  named : (is_trailing : Bool) (found : Option Text) (waiting : Waiting) (position : ℕ) (word : Text) (h : Held) (name : Text)
      → (if is_trailing then (h, value) else subcommand_or_other s.rules found waiting position word h).1 ≡ subcommand name
      → (if is_trailing then [] else other_fault s found word h) ≡ []
      → bytes_eq name (codes "help") ≡ false
  named true found waiting position word h name met none = cc
  named false None waiting position word h name met none = absurd (subst IsWithin met (within (bytes_eq word (45 ∷ 45 ∷ []))))
    where
      within : (b : Bool) → IsWithin (if b then (h, trailing position) else long_or_other s.rules waiting word (long_of word) h).1
      within true = tt
      within false = other_within s.rules waiting word (long_of word) h
  named false (Some n) waiting position word h name met none =
      let same : n ≡ name = cc in
      subst (λ (x : Text). bytes_eq x (codes "help") ≡ false) same (faulty (bytes_eq n (codes "help")) (rw helps at none))
    where
      faulty : (b : Bool) → (if b && true then kinds.DisplayHelp ∷ kinds.InvalidSubcommand ∷ [] else []) ≡ [] → b ≡ false
      faulty true e = cc
      faulty false e = refl

  -- a word at which the walk stops names something else than `help`
  turn_named : (w : Walk) (word : Text) (p : Text × List Text) → w.stopped ≡ None → turn_fault s names w word ≡ []
      → (walked s.rules names w word).stopped ≡ Some p → bytes_eq p.0 (codes "help") ≡ false
  unfolding walked
  turn_named w word p going none stopped =
      let met = word_met s.rules names w.is_trailing w.waiting w.position word w.held in
      let here = sym (ap (λ (o : Option (Text × List Text)). (walked_from s.rules names o w word).stopped) going) ∙ stopped in
      let step = stopped_by s.rules word w met.0 met.1 p going here in
      named w.is_trailing (subcommand_met names w.waiting word) w.waiting w.position word w.held p.0 step (neither _ _ (rw going at none)).0

  -- a walk that stopped stays at its subcommand
  stays : (words : List Text) (w : Walk) (name : Text) (seen : List Text) (p : Text × List Text) → w.stopped ≡ Some (name, seen)
      → (fold (walked s.rules names) w words).stopped ≡ Some p → p.0 ≡ name
  unfolding walked
  stays [] w name seen p at stopped = cc
  stays (word ∷ rest) w name seen p at stopped =
      stays rest (walked s.rules names w word) name (seen ++ word ∷ []) p (rw at refl) stopped

  -- a walk without a fault doesn't stop at `help`
  walk_named : (words : List Text) (w : Walk) (p : Text × List Text) → w.stopped ≡ None → walk_fault s names w words ≡ []
      → (fold (walked s.rules names) w words).stopped ≡ Some p → bytes_eq p.0 (codes "help") ≡ false
  unfolding walk_fault
  walk_named [] w p going none stopped = cc
  walk_named (word ∷ rest) w p going none stopped =
      let parts = neither _ _ none in
      go (walked s.rules names w word).stopped refl parts.0 (λ e. walk_named rest (walked s.rules names w word) p e parts.1 stopped)
    where
      go : (o : Option (Text × List Text)) → (walked s.rules names w word).stopped ≡ o → turn_fault s names w word ≡ []
          → ((walked s.rules names w word).stopped ≡ None → bytes_eq p.0 (codes "help") ≡ false) → bytes_eq p.0 (codes "help") ≡ false
      go None e turn later = later e
      go (Some q) e turn later =
          let same = stays rest (walked s.rules names w word) q.0 q.1 p e stopped in
          subst (λ (x : Text). bytes_eq x (codes "help") ≡ false) (sym same) (turn_named w word q going turn e)

-- a name is that of one of these
abbrev pub IsNameIn : Text → List Shape → Type 0
IsNameIn name [] = ⊥
IsNameIn name (s ∷ shapes) = (name ≡ s.name) ⊎ IsNameIn name shapes

-- what is found among these and one more, if not that one, has the name of one of these
found_among : (answers : Shape → Bool) (words : List Text) (others : List Shape) (last : Shape) → (answers last ≡ true → ⊥)
    → (found : Text × List Row) → option_map (λ s. rows_at s words) (find answers (others ++ last ∷ [])) ≡ Some found → IsNameIn found.0 others
found_among answers words [] last not_last found e = go (answers last) refl e
  where
    go : (b : Bool) → answers last ≡ b → option_map (λ s. rows_at s words) (if b then Some last else None) ≡ Some found → ⊥
    go true is e = not_last is
    go false is e = absurd cc
found_among answers words (s ∷ others) last not_last found e = go (answers s) (found_among answers words others last not_last found) e
  where
    name_of : Option (Text × List Row) → Text
    name_of o = unwrap_or (option_map (λ q. q.0) o) []

    go : (b : Bool) → (option_map (λ s. rows_at s words) (find answers (others ++ last ∷ [])) ≡ Some found → IsNameIn found.0 others)
        → option_map (λ s. rows_at s words) (if b then Some s else find answers (others ++ last ∷ [])) ≡ Some found → (found.0 ≡ s.name) ⊎ IsNameIn found.0 others
    go true among e = inl (sym (ap name_of e))
    go false among e = inr (among e)

-- of subcommands, of which the last is `help`, one of the others is entered
one_entered : (a : App) (others : List Shape) (last : Shape) → a.subs ≡ others ++ last ∷ [] → last.name ≡ codes "help" → last.aliases ≡ []
    → (p : Text × List Text) → bytes_eq p.0 (codes "help") ≡ false → (found : Text × List Row) → entered a (Some p) ≡ Some found → IsNameIn found.0 others
one_entered a others last subs help alone p other found e = found_among (λ s. answers_to p.0 (label_of s)) p.1 others last not_last found (rw subs at e)
  where
    contradicts : (b : Bool) → b || false ≡ true → bytes_eq (codes "help") p.0 ≡ b → ⊥
    contradicts false e is = cc
    contradicts true e is =
        let same : codes "help" ≡ p.0 = (bytes_eq-Decides (codes "help") p.0).0 is in
        let here : bytes_eq p.0 (codes "help") ≡ true = (bytes_eq-Decides p.0 (codes "help")).1 (sym same) in
        cc

    not_last : answers_to p.0 (label_of last) ≡ true → ⊥
    not_last h =
        let is : bytes_eq (codes "help") p.0 || false ≡ true = subst (λ (x : Text × List Text). answers_to p.0 x ≡ true) (ap₂ (λ (n : Text) (xs : List Text). (n, xs)) help alone) h in
        contradicts (bytes_eq (codes "help") p.0) is refl

-- of five lists of faults in turn, the first and the last
ends_of : (first second third fourth last : Kinds) → or_else first (or_else second (or_else third (or_else fourth last))) ≡ [] → (first ≡ []) × (last ≡ [])
ends_of first second third fourth last none =
    let one = neither first (or_else second (or_else third (or_else fourth last))) none in
    let two = neither second (or_else third (or_else fourth last)) one.1 in
    let three = neither third (or_else fourth last) two.1 in
    (one.0, (neither fourth last three.1).1)

-- where a subcommand has to be there and no check fails, there is one
required_there : (s : Shape) (rows : List Row) (there : Bool) → s.subcommand_required ≡ true → check_fault s rows there ≡ [] → there ≡ true
required_there s rows true required none = refl
required_there s rows false required none =
    go (s.arg_required_else_help && not (list_any (λ r. explicit_source r.source) rows)) (not (s.subcommand_negates_reqs && false) && list_any (λ a. a.required && not (is_given a.id rows)) s.rules) (rw required at none)
  where
    go : (wants_help wants_argument : Bool) → check_kinds wants_help true wants_argument ≡ [] → false ≡ true
    go true wants_argument e = cc
    go false wants_argument e = cc

-- a subcommand with one of these names is entered
abbrev pub EntersOne : Option (Text × List Row) → List Shape → Type 0
EntersOne entered shapes = (found : Text × List Row) × (entered ≡ Some found) × IsNameIn found.0 shapes

-- where nothing fails, it is one of the subcommands before the last, if the last is `help` and one has to be there
module _ (a : App) (others : List Shape) (last : Shape) (subs : a.subs ≡ others ++ last ∷ []) (help : last.name ≡ codes "help") (alone : last.aliases ≡ [])
    (helps : a.top.disable_help_subcommand ≡ false) (required : a.top.subcommand_required ≡ true) (words : List Text) where
  one_found : (stop : Option (Text × List Text)) → (walk a.top.rules (names_of a) nothing_held words).stopped ≡ stop → walk_fault a.top (names_of a) (walk_from nothing_held) words ≡ []
      → is_some (entered a stop) ≡ true → EntersOne (entered a stop) others
  one_found None at none there = cc
  one_found (Some p) at none there = go (entered a (Some p)) refl there
    where
      other : bytes_eq p.0 (codes "help") ≡ false
      other = walk_named a.top (names_of a) helps words (walk_from nothing_held) p refl none at

      go : (o : Option (Text × List Row)) → entered a (Some p) ≡ o → is_some o ≡ true → EntersOne (entered a (Some p)) others
      go None e there = cc
      go (Some found) e there = (found, e, one_entered a others last subs help alone p other found e)

  one_of_others : built_fault a nothing_held words ≡ [] → EntersOne (entered a (walk a.top.rules (names_of a) nothing_held words).stopped) others
  one_of_others none =
      let end = walk a.top.rules (names_of a) nothing_held words in
      let there = is_some (entered a end.stopped) in
      let settled_rows = (settled a.top.rules end.held).rows in
      let ends = ends_of (walk_fault a.top (names_of a) (walk_from nothing_held) words) (entered_fault a end.stopped)
      (settle_fault a.top.rules a.top.args_override_self end.held) (defaults_fault settled_rows a.top.rules)
      (check_fault a.top (finished a.top.rules end.held) there) none in
      one_found end.stopped refl ends.0 (required_there a.top (finished a.top.rules end.held) there required ends.1)

-- the subcommands of the program before `help`, as they are built
abbrev its_shapes : List Shape
its_shapes = take 8 (built zpc_app).subs

-- where clap makes matches, they are those of one of the commands
command_entered : (words : List Text) → fault_of zpc_app words ≡ [] → EntersOne (subcommand_of zpc_app words) its_shapes
command_entered words none = one_of_others (built zpc_app) its_shapes _ refl refl refl refl refl words none

named_of : (name : Text) → IsNameIn name its_shapes → IsCommand name
named_of name (inl e) = inl e
named_of name (inr (inl e)) = inr (inl e)
named_of name (inr (inr (inl e))) = inr (inr (inl e))
named_of name (inr (inr (inr (inl e)))) = inr (inr (inr (inl e)))
named_of name (inr (inr (inr (inr (inl e))))) = inr (inr (inr (inr (inl e))))
named_of name (inr (inr (inr (inr (inr (inl e)))))) = inr (inr (inr (inr (inr (inl e)))))
named_of name (inr (inr (inr (inr (inr (inr (inl e))))))) = inr (inr (inr (inr (inr (inr (inl e))))))
named_of name (inr (inr (inr (inr (inr (inr (inr (inl e)))))))) = inr (inr (inr (inr (inr (inr (inr e))))))
named_of name (inr (inr (inr (inr (inr (inr (inr (inr none)))))))) = absurd none

-- what the program's clap command answers
module _ (program : Command) (m : ArgMatches) (words : List Text) (is : app_of program ≡ zpc_app) (free : is_simple_and_free (app_of program) ≡ true → fault_of (app_of program) words ≡ []) where
  pub no_fault : fault_of zpc_app words ≡ []
  no_fault = subst (λ (a : App). fault_of a words ≡ []) is (free (ap is_simple_and_free is))

  pub rows_same : HasMatchesOf (app_of program) words m → subcommand_rows_of m ≡ subcommand_of zpc_app words
  rows_same matches = (matches (ap is_simple is)).1 ∙ ap (λ (a : App). subcommand_of a words) is

  pub command_named : HasMatchesOf (app_of program) words m → IsSomeAnd (subcommand_name_of m) IsCommand
  command_named matches = go (command_entered words no_fault)
    where
      go : EntersOne (subcommand_of zpc_app words) its_shapes → IsSomeAnd (subcommand_name_of m) IsCommand
      go (found, e, name) =
          let named : Some found.0 ≡ subcommand_name_of m = sym (ap (option_map (λ (p : Text × List Row). p.0)) (rows_same matches ∙ e)) ∙ name_first m in
          subst (λ (o : Option Text). IsSomeAnd o IsCommand) named (named_of found.0 name)

-- and what it fails with has a kind that the definition names
pub command_fails : {T : Type 0} (program : Command) (words : List Text) (error : Error) (r : Result T Error) → app_of program ≡ zpc_app → (is_simple_and_free (app_of program) ≡ true → HasKind (fault_of (app_of program) words) error)
    → IsErr r × IsErrAnd r (λ e. e ≡ error) → FailsBy (fault_of zpc_app words) r
command_fails program words error (Ok x) is fails (err, same) = absurd (true≢false (sym err))
command_fails program words error (Err e) is fails (err, same) =
    subst (λ (x : Error). HasKind (fault_of zpc_app words) x) (sym same) (subst (λ (a : App). HasKind (fault_of a words) error) is (fails (ap is_simple_and_free is)))
