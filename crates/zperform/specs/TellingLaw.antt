-- Refusals that are told one after another, in proofs.
use Rattle.std.proofs.Common.{◌≡◌, ◌≢◌, ◌∙◌, ℕ, Bool, true, false, List, [], ◌∷◌, ◌++◌, Option, None, refl, sym, subst}
use Rattle.zquetzal.specs.declared.error.SaveError.{SaveError}
use Rattle.zperform.specs.Contents.{SparesOthers}
use Rattle.zperform.specs.Devices.{Seen, seen}
use Rattle.zperform.specs.Telling.{SaysEach, heard, said_of}

-- those of one name are spared by two calls as by each
pub spared_through : (name same : List ℕ) (a b c : List ℕ → Option (List ℕ)) → same ≡ name → SparesOthers name a b → SparesOthers same b c → SparesOthers name a c
spared_through name same a b c is first then = λ other another. then other (subst (λ (n : List ℕ). other ≢ n) (sym is) another) ∙ first other another

says_through : (first then : List SaveError) (a b c : Seen) → SaysEach first a b → SaysEach then b c → SaysEach (then ++ first) a c
says_through first [] a b c had has = subst (SaysEach first a) (sym has) had
says_through first (error ∷ then) a b c had (between, before, said) = (between, says_through first then a b between had before, said)

unheard : (refusals : List SaveError) → heard false refusals ≡ []
unheard [] = refl
unheard (error ∷ refusals) = refl

all_heard : (refusals : List SaveError) → heard true refusals ≡ refusals
all_heard [] = refl
all_heard (error ∷ refusals) = refl

-- what is said of one call and then of another is said of both
pub heard_through : (tell same : Bool) (first then : List SaveError) (a b c : Seen) → same ≡ tell → SaysEach (heard tell first) a b → SaysEach (heard same then) b c → SaysEach (heard tell (then ++ first)) a c
heard_through tell same first then a b c is had has = go tell had (subst (λ (x : Bool). SaysEach (heard x then) b c) is has)
  where
    go : (tell : Bool) → SaysEach (heard tell first) a b → SaysEach (heard tell then) b c → SaysEach (heard tell (then ++ first)) a c
    go true had has =
        subst (λ (l : List SaveError). SaysEach l a c) (sym (all_heard (then ++ first)))
        (says_through first then a b c (subst (λ (l : List SaveError). SaysEach l a b) (all_heard first) had) (subst (λ (l : List SaveError). SaysEach l b c) (all_heard then) has))
    go false had has =
        let still : b ≡ a = subst (λ (l : List SaveError). SaysEach l a b) (unheard first) had in
        let there : c ≡ b = subst (λ (l : List SaveError). SaysEach l b c) (unheard then) has in
        subst (λ (l : List SaveError). SaysEach l a c) (sym (unheard (then ++ first))) (there ∙ still)

-- where no file is for saves nothing is said
pub said_nowhere : (tell : Bool) (refusals : List SaveError) (a : Seen) → SaysEach (said_of tell None refusals) a a
said_nowhere tell refusals a = subst (λ (l : List SaveError). SaysEach l a a) (sym (unheard refusals)) refl

-- what is said of the errors that a store was lent is said of those that come back
pub said_back : {E : Type 0} (contents : E → Option (List ℕ)) (failures : E → ℕ) (waits : E → Bool) (tell same : Bool) (refusals : List SaveError) (old lent new back : E)
    → same ≡ tell → lent ≡ old → back ≡ new → SaysEach (heard same refusals) (seen contents failures waits lent) (seen contents failures waits new)
    → SaysEach (heard tell refusals) (seen contents failures waits old) (seen contents failures waits back)
said_back {E} contents failures waits tell same refusals old lent new back is given home said =
    let of = seen contents failures waits in
    let told = subst (λ (t : Bool). SaysEach (heard t refusals) (of lent) (of new)) is said in
    let begun = subst (λ (e : E). SaysEach (heard tell refusals) (of e) (of new)) given told in
    subst (λ (e : E). SaysEach (heard tell refusals) (of old) (of e)) (sym home) begun
