-- A list that was tested is the list that is due.
use Rattle.std.proofs.Common.{◌≡◌, ℕ, Bool, true, false, Option, Some, List, ap, subst, refl}
use Rattle.std.proofs.Math.Dec.{T_prop}
use Rattle.zdomain.specs.declared.interval.Interval.{Interval}
use Rattle.zdomain.specs.declared.values.Values.{Values}
use Rattle.zdomain.specs.declared.values.Values.TheVariants.{Run, List as AList}
use Rattle.zdomain.specs.Few.{is_scattered, IsScattered}
use Rattle.zdomain.specs.Values.{list_or, list_where}

abbrev listed : (words : List ℕ) → IsScattered words → Values
listed words are = AList (record { few = words; scattered = are })

one_way : (words : List ℕ) (p q : IsScattered words) → p ≡ q
one_way words p q = ap (λ t. record { is = t }) (T_prop _ p.is q.is)

list_by : (other : Interval) (words : List ℕ) (are : IsScattered words) (b : Bool) (e : is_scattered words ≡ b) → b ≡ true → listed words are ≡ list_where other words b e
list_by other words are true e is = ap (listed words) (one_way words are _)
list_by other words are false e is = absurd cc

run_by : (other : Interval) (words : List ℕ) (b : Bool) (e : is_scattered words ≡ b) → b ≡ false → Run other ≡ list_where other words b e
run_by other words true e is = absurd cc
run_by other words false e is = refl

pub list_is : (other : Interval) (few words : List ℕ) (are : IsScattered few) → few ≡ words → is_scattered words ≡ true → listed few are ≡ list_or other (Some words)
list_is other few words are same is = subst (λ (ws : List ℕ). is_scattered ws ≡ true → listed few are ≡ list_or other (Some ws)) same (λ e. list_by other few are (is_scattered few) refl e) is

pub run_is : (other : Interval) (words : List ℕ) → is_scattered words ≡ false → Run other ≡ list_or other (Some words)
run_is other words is = run_by other words (is_scattered words) refl is

pub same_list : (i j : Interval) (few : Option (List ℕ)) (words : Option (List ℕ)) → i ≡ j → words ≡ few → list_or i words ≡ list_or j few
same_list i j few words p q = subst (λ (f : Option (List ℕ)). list_or i words ≡ list_or j f) q (ap (λ k. list_or k words) p)
