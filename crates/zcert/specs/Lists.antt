-- Versions 2 to 5 of the format: a set is an interval or a list of words, and says first which of both (own).
use Rattle.std.specs.Prelude.{◌≡◌, ℕ, zero, suc, ◌+◌, Bool, true, false, ◌&&◌, List, [], ◌∷◌, ◌++◌, length, Result, Ok, Err, T, nat_le, refl}
use Rattle.std.specs.List.{flat_map, AllByRecursion}
use Rattle.std.proofs.Common.{sym, subst}
use Rattle.zdomain.specs.declared.values.Values.{Values}
use Rattle.zdomain.specs.declared.values.Values.TheVariants.{Run, List as AList}
use Rattle.zdomain.specs.Few.{turned, is_scattered}
use Rattle.zcert.specs.declared.error.CertError.{CertError}
use Rattle.zcert.specs.declared.error.CertError.TheVariants.{Order, ListForm}
use Rattle.zcert.specs.declared.limits.TheConstants.{LIST_VERSION}
use Rattle.zcert.specs.Numbers.{Kind, WordCount, Word, number, HasRoom}
use Rattle.zcert.specs.Steps.{◌>>=◌, need, number_at}
use Rattle.zcert.specs.Format.{Format, interval_format}

-- so many words, each above the one before it by its signed reading, the first of them at `floor` or above in that order
unfoldable pub words_at : ℕ → ℕ → List ℕ → Result (List ℕ × List ℕ) CertError
words_at zero floor bytes = Ok ([], bytes)
words_at (suc n) floor bytes = do
  word ← number_at Word bytes
  _ ← need (nat_le floor (turned word.0)) Order
  words ← words_at n (turned word.0 + 1) word.1
  Ok (word.0 ∷ words.0, words.1)

abbrev pub list_where : (words : List ℕ) (b : Bool) → is_scattered words ≡ b → Result Values CertError
list_where words true e = Ok (AList (record { few = words; scattered = record { is = subst T (sym e) tt } }))
list_where words false e = Err ListForm

-- the list of these words, unless they are all from their first to their last
abbrev pub list_of : List ℕ → Result Values CertError
list_of words = list_where words (is_scattered words) refl

abbrev pub run_at : List ℕ → Result (Values × List ℕ) CertError
run_at bytes = do
  run ← interval_format.value_at bytes
  Ok (Run run.0, run.1)

-- a list says how many words it has, 2 to 64
abbrev pub list_at : List ℕ → Result (Values × List ℕ) CertError
list_at bytes = do
  count ← number_at WordCount bytes
  _ ← need (nat_le 2 count.0 && nat_le count.0 64) ListForm
  words ← words_at count.0 0 count.1
  list ← list_of words.0
  Ok (list, words.1)

-- a set of a kind
abbrev pub set_at : ℕ → List ℕ → Result (Values × List ℕ) CertError
set_at zero bytes = run_at bytes
set_at (suc zero) bytes = list_at bytes
set_at (suc (suc kind)) bytes = Err ListForm

abbrev pub set_bytes : Values → List ℕ
set_bytes (Run i) = number Kind 0 ++ interval_format.spelled i
set_bytes (AList s) = number Kind 1 ++ number WordCount (length s.few) ++ flat_map (number Word) s.few

abbrev pub HasBytes : Values → Type 0
HasBytes (Run i) = interval_format.Has i
HasBytes (AList s) = AllByRecursion (HasRoom Word) s.few

abbrev pub values_format : Format Values
values_format = record {
  version = LIST_VERSION;
  limited = true;
  spelled = set_bytes;
  value_at = λ bytes. do
    kind ← number_at Kind bytes
    set_at kind.0 kind.1;
  Has = HasBytes;
}
