-- The digest of bytes.
use Rattle.std.specs.Prelude.{ℕ, ◌%◌, ◌^◌, List}
use Rattle.std.specs.Hash.DefaultHasher as sip

-- SipHash-1-3 of the bytes, with keys 0. Of any bytes it fits 64 bits; the remainder says so
unfoldable pub digest : List ℕ → ℕ
digest bytes = sip.finish (sip.write sip.initial bytes) % 2 ^ 64
