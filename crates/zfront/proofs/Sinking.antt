-- What a sink that wraps gives out, and what waits then.
use Rattle.std.proofs.Common.{◌≡◌, ◌≢◌, ℕ, ◌+◌, ◌<◌, List, [], ◌∷◌, ◌++◌, length, length-append, refl, sym, ap, ◌∙◌, append_assoc, append-nil, arith}
use Rattle.std.specs.Prelude.{Option, Bool, true}
use Rattle.std.specs.Io.KnownBytes.{Keeps}
use Rattle.std.proofs.KnownBytes.{Appends-kept, Appends-trans}
use Rattle.zfault.specs.Devices.{waits_after}
use Rattle.zfront.specs.Wrapping.{Wrapping, coming, FeedsTo, settled}
use Rattle.zfront.specs.Owed.{Owed, bytes_owed, owed_then, GivesOut, GivesSome, Passes, Finishes}
use Rattle.zfront.proofs.Taking.{FeedsTo-length}

-- any byte waits
pub waits_some : (w : Bool) (bytes : List ℕ) → 0 < length bytes → waits_after w bytes ≡ true
waits_some w [] some = absurd (omega (arith, some))
waits_some w (byte ∷ rest) some = refl

pub some_left : (bytes : List ℕ) → bytes ≢ [] → 0 < length bytes
some_left [] not = absurd (not refl)
some_left (byte ∷ rest) not = omega arith

module _ (a b : Option (List ℕ)) (u v : Bool) where
  -- what was decided is given out, and a piece taken
  pub passes : (before mid after : Owed) (piece : List ℕ) → GivesOut a b u v before.decided mid.decided → mid.wrapping ≡ before.wrapping → mid.decided ≡ [] → FeedsTo mid.wrapping after.wrapping piece [] after.decided
      → Passes a b before after piece
  passes before mid after piece gave same none fed =
      let all : before.decided ≡ gave.given = gave.whole ∙ ap (λ (left : List ℕ). gave.given ++ left) none ∙ append-nil gave.given in
      record {
        given = gave.given;
        grown = gave.grown;
        width = fed.feeds.width ∙ ap (λ (w : Wrapping). w.width) same;
        whole =
            ap (λ (bytes : List ℕ). bytes ++ coming before.wrapping piece) all ∙ ap (λ (w : Wrapping). gave.given ++ coming w piece) (sym same) ∙ ap (λ (bytes : List ℕ). gave.given ++ bytes) fed.feeds.whole
            ∙ ap (λ (bytes : List ℕ). gave.given ++ (bytes ++ after.wrapping.held)) (sym fed.grown);
        later = λ text.
            ap (λ (bytes : List ℕ). bytes ++ coming before.wrapping (piece ++ text)) all ∙ ap (λ (w : Wrapping). gave.given ++ coming w (piece ++ text)) (sym same) ∙ ap (λ (bytes : List ℕ). gave.given ++ bytes) (fed.feeds.later text)
            ∙ ap (λ (bytes : List ℕ). gave.given ++ (bytes ++ coming after.wrapping text)) (sym fed.grown);
      }

  pub gives_some : (before after : Owed) → GivesOut a b u v before.decided after.decided → after.wrapping ≡ before.wrapping → GivesSome a b before after
  gives_some before after gave same = record { given = gave.given; grown = gave.grown; whole = gave.whole; kept = same }

  pub finishes_kept : (before mid after : Owed) → mid.decided ≡ before.decided ++ before.wrapping.held → mid.wrapping ≡ settled before.wrapping → GivesOut a b u v mid.decided after.decided → after.wrapping ≡ mid.wrapping
      → Finishes a b before after
  finishes_kept before mid after decides settles gave same = record { given = gave.given; grown = gave.grown; whole = sym decides ∙ gave.whole; finished = same ∙ settles }

  -- and the sink below is flushed
  pub finishes : (c : Option (List ℕ)) (before mid after : Owed) → mid.decided ≡ before.decided ++ before.wrapping.held → mid.wrapping ≡ settled before.wrapping → GivesOut a b u v mid.decided after.decided → after.wrapping ≡ mid.wrapping
      → Keeps b c → Finishes a c before after
  finishes c before mid after decides settles gave same kept = record { given = gave.given; grown = Appends-kept a b c gave.given gave.grown kept; whole = sym decides ∙ gave.whole; finished = same ∙ settles }

  -- what was taken waits
  pub waits_taken : (before mid after : Owed) (piece : List ℕ) → FeedsTo mid.wrapping after.wrapping piece [] after.decided → 0 < length piece → waits_after v (bytes_owed after) ≡ waits_after (waits_after u (bytes_owed before)) piece
  waits_taken before mid after piece fed some =
      let counts : length after.decided + length after.wrapping.held ≡ 0 + length mid.wrapping.held + length piece = FeedsTo-length _ _ _ _ _ fed in
      let more : 0 < length (bytes_owed after) = omega (arith, counts, some, length-append after.decided after.wrapping.held) in
      waits_some v (bytes_owed after) more ∙ sym (waits_some (waits_after u (bytes_owed before)) piece some)

  -- what is left waits as it did
  pub waits_left : (before after : Owed) (bytes : List ℕ) → GivesOut a b u v bytes after.decided → bytes_owed before ≡ bytes ++ after.wrapping.held → after.decided ≢ [] → waits_after v (bytes_owed after) ≡ waits_after u (bytes_owed before)
  waits_left before after bytes gave whole not =
      let some : 0 < length (bytes_owed after) = omega (arith, some_left after.decided not, length-append after.decided after.wrapping.held) in
      let was : 0 < length (bytes_owed before) = omega (arith, some, ap length whole, length-append bytes after.wrapping.held, ap length gave.whole, length-append gave.given after.decided, length-append after.decided after.wrapping.held) in
      waits_some v (bytes_owed after) some ∙ sym (waits_some u (bytes_owed before) was)

  pub waits_failed : (before after : Owed) → GivesOut a b u v before.decided after.decided → after.wrapping ≡ before.wrapping → after.decided ≢ [] → waits_after v (bytes_owed after) ≡ waits_after u (bytes_owed before)
  waits_failed before after gave same not = waits_left before after before.decided gave (ap (λ (w : Wrapping). before.decided ++ w.held) (sym same)) not

  -- what was given out waits below as it did here
  pub waits_given : (before after : Owed) (bytes : List ℕ) → GivesOut a b u v bytes after.decided → bytes_owed before ≡ bytes → bytes_owed after ≡ [] → after.decided ≡ [] → waits_after v (bytes_owed after) ≡ waits_after u (bytes_owed before)
  waits_given before after bytes gave whole nothing none =
      let all : bytes ≡ gave.given = gave.whole ∙ ap (λ (left : List ℕ). gave.given ++ left) none ∙ append-nil gave.given in
      ap (waits_after v) nothing ∙ gave.waits ∙ ap (waits_after u) (sym all ∙ sym whole)

-- two pieces that a sink took, one after the other, are one
pub passes_join : (a b c : Option (List ℕ)) (x y z : Owed) (piece more : List ℕ) → Passes a b x y piece → Passes b c y z more → Passes a c x z (piece ++ more)
passes_join a b c x y z piece more first second = record {
  given = first.given ++ second.given;
  grown = Appends-trans a b c first.given second.given first.grown second.grown;
  width = second.width ∙ first.width;
  whole = first.later more ∙ ap (λ (bytes : List ℕ). first.given ++ bytes) second.whole ∙ sym (append_assoc first.given second.given (bytes_owed z));
  later = λ text.
      ap (owed_then x) (append_assoc piece more text) ∙ first.later (more ++ text) ∙ ap (λ (bytes : List ℕ). first.given ++ bytes) (second.later text) ∙ sym (append_assoc first.given second.given (owed_then z text));
}
