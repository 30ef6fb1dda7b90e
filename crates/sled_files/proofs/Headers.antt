-- The header that a payload begins with.
use Rattle.std.proofs.Common.{◌≡◌, ℕ, ◌+◌, ◌≤◌, List, [], ◌∷◌, ◌++◌, length, take, drop, refl, sym, ◌∙◌, ap, subst, arith, length-take, length-append}
use Rattle.std.specs.Int.{w32, w64, to_le_bytes, from_le_bytes}
use Rattle.std.proofs.lemmas.List.{take-append-drop, length-take-le}
use Rattle.std.proofs.lemmas.Nat.{le_bytes_4, le_bytes_8}
use Rattle.sled_log.specs.Digest.{digest}
use Rattle.sled_log.specs.Log.{closed}
use Rattle.sled_log.specs.Append.{behind_gate}
use Rattle.sled_log.proofs.ReadingLemmas.{AreBytes, bytes-take, bytes-drop}
use Rattle.sled_files.specs.Header.{magic, format, header}

abbrev pub magic_number : ℕ
magic_number = 0x6b65_7661_6e6e_6f64

pub magic_is : (bytes : List ℕ) → AreBytes bytes → 8 ≤ length bytes → from_le_bytes w64 (take 8 bytes) ≡ magic_number → take 8 bytes ≡ magic
magic_is bytes small long is = sym (le_bytes_8 (take 8 bytes) magic_number (length-take-le 8 bytes long) (bytes-take 8 bytes small) (sym is))

pub number_is : (bytes : List ℕ) → take 8 bytes ≡ magic → from_le_bytes w64 (take 8 bytes) ≡ magic_number
number_is bytes is = ap (from_le_bytes w64) is

pub long_enough : (bytes : List ℕ) → take 8 bytes ≡ magic → 8 ≤ length bytes
long_enough bytes is = omega (arith, length-take 8 bytes, ap length is)

-- a header, by its parts
pub header_is : (payload behind format_bytes rest generation_bytes first : List ℕ) (generation : ℕ) → AreBytes payload → take 8 payload ≡ magic → behind ≡ drop 8 payload
    → format_bytes ≡ take 4 behind → rest ≡ drop 4 behind → 4 ≤ length behind → from_le_bytes w32 format_bytes ≡ format
    → generation_bytes ≡ take 8 rest → first ≡ drop 8 rest → 8 ≤ length rest → generation ≡ from_le_bytes w64 generation_bytes
    → payload ≡ header generation ++ first
unfolding header
header_is payload behind format_bytes rest generation_bytes first generation small begins behind_is format_are rest_is long4 number generation_are first_is long8 is =
    let small_behind : AreBytes behind = subst AreBytes (sym behind_is) (bytes-drop 8 payload small) in
    let small_rest : AreBytes rest = subst AreBytes (sym rest_is) (bytes-drop 4 behind small_behind) in
    let four : to_le_bytes w32 format ≡ take 4 behind = le_bytes_4 (take 4 behind) format (length-take-le 4 behind long4) (bytes-take 4 behind small_behind) (sym number ∙ ap (from_le_bytes w32) format_are) in
    let eight : to_le_bytes w64 generation ≡ take 8 rest = le_bytes_8 (take 8 rest) generation (length-take-le 8 rest long8) (bytes-take 8 rest small_rest) (is ∙ ap (from_le_bytes w64) generation_are) in
    sym (take-append-drop 8 payload)
    ∙ ap (λ (l : List ℕ). l ++ drop 8 payload) begins
    ∙ ap (λ (l : List ℕ). magic ++ l) (sym behind_is ∙ sym (take-append-drop 4 behind) ∙ ap (λ (l : List ℕ). l ++ drop 4 behind) (sym four))
    ∙ ap (λ (l : List ℕ). magic ++ (to_le_bytes w32 format ++ l)) (sym rest_is ∙ sym (take-append-drop 8 rest) ∙ ap (λ (l : List ℕ). l ++ drop 8 rest) (sym eight) ∙ ap (λ (l : List ℕ). to_le_bytes w64 generation ++ l) (sym first_is))

-- what no payload lacks that begins with a header

pub header_begins : (payload first : List ℕ) (generation : ℕ) → payload ≡ header generation ++ first → take 8 payload ≡ magic
unfolding header
header_begins payload first generation is = ap (take 8) is

pub header_long : (payload first : List ℕ) (generation : ℕ) → payload ≡ header generation ++ first → 20 ≤ length payload
unfolding header
header_long payload first generation is = let l = ap length is in omega (arith, l)

pub header_format : (payload first : List ℕ) (generation : ℕ) → payload ≡ header generation ++ first → from_le_bytes w32 (take 4 (drop 8 payload)) ≡ format
unfolding header
header_format payload first generation is = ap (λ (l : List ℕ). from_le_bytes w32 (take 4 (drop 8 l))) is

-- how long a block is behind its gate, with the closed gate that ends the log
pub block_length : (payload : List ℕ) → length (behind_gate digest payload) ≡ 17 + length payload
block_length payload =
    let front = to_le_bytes w64 (length payload) ++ to_le_bytes w64 (digest payload) in
    let sixteen : length (to_le_bytes w64 (length payload) ++ to_le_bytes w64 (digest payload)) ≡ 16 = refl in
    omega (arith, sixteen, length-append (front ++ payload) (closed ∷ []), length-append front payload)

header_length : (generation : ℕ) → length (header generation) ≡ 20
unfolding header
header_length generation = refl

-- and the first of a file, whose payload begins with a header
pub first_length : (generation : ℕ) (payload bytes block : List ℕ) → bytes ≡ header generation ++ payload → block ≡ behind_gate digest bytes → length block ≡ length payload + 37
first_length generation payload bytes block is block_is = omega (arith, ap length is, length-append (header generation) payload, header_length generation, ap length block_is, block_length bytes)
