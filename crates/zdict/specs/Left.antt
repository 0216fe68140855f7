-- What an iterator over tokens has left.
use Rattle.std.specs.Prelude.{false, List, drop}
use Rattle.zdict.specs.Tokens.{Span, tokens_from}
use Rattle.zdict.specs.declared.token.Token.{Token}
use Rattle.zdict.specs.declared.token.Tokens.{Tokens}

-- what an item says
abbrev pub span_of : Token → Span
span_of token = record { place = token.place; bytes = token.bytes.now }

-- what an iterator has left
abbrev pub tokens_left : Tokens → List Span
tokens_left it = tokens_from it.separators.now false it.place (drop it.place it.line.now)
