-- The digest of a file: SHA-256 (FIPS 180-4) in hexadecimal.
use Rattle.std.specs.Prelude.{ℕ, List}
use Rattle.hex.specs.Hex.{encode_lower}
use Rattle.sha2.specs.Sha256.{sha256}

abbrev pub digest_text : List ℕ → List ℕ
digest_text bytes = encode_lower (sha256 bytes)
