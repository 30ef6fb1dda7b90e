-- Fronts that are shifted: the front of the last few bytes, from the number of the last eight of them, and whether one byte string begins with
-- another.
use Rattle.std.proofs.Common.{◌≡◌, ℕ, zero, suc, ◌+◌, ◌-◌, ◌*◌, ◌/◌, ◌%◌, ◌^◌, ◌<◌, ◌≤◌, nat_eq, Bool, true, false, MatchBool, [], ◌∷◌, refl, sym, ap, ◌∙◌, arith, take, drop, length, get_or, length-drop}
use Rattle.std.proofs.Math.Nat.{mul_assoc, mul_comm, pow-le-pow_right, pow-succ', div-div-eq-div-mul, add-mul-div_right}
use mathlib.Core.Bool.{true≢false}
use Rattle.std.proofs.lemmas.List.{take_all, drop-drop, get_or_past}
use Rattle.std.proofs.lemmas.Bool.Decides.{Decides-eqb}
use Rattle.std.proofs.lemmas.Nat.{mul-mod_first, pow-add, mod_below, div_below, be_bytes_8}
use Rattle.std.specs.Bool.{Decides}
use Rattle.std.specs.Int.{byte_at, bytes_high_first, from_be_bytes, w64}
use Rattle.sled_nodes.specs.Order.{Key}
use Rattle.sled_nodes.specs.Bytes.{padded}
use Rattle.sled_nodes.specs.theory.Fronts.{front}
use Rattle.sled_nodes.proofs.Fronts.{byte_on, length-padded, padded_low, take-padded, padded-long, front-long, behind_at, end, length-end, end_low, end_front}

-- the front of what is left from a place on, where this is eight bytes or more
pub front_at : (a : Key) (start n : ℕ) → 8 ≤ length a - start → n ≡ from_be_bytes w64 (take 8 (behind_at start a)) → n ≡ front (drop start a)
front_at a start n h is =
    let l : length (drop start a) ≡ length a - start = length-drop start a in
    front-long (drop start a) n (omega arith) (is ∙ ap (λ (z : Key). from_be_bytes w64 (take 8 z)) (take_all (length a - start) (drop start a) (omega arith)))

-- a byte that is not there counts as one that was filled up
same_byte : (k : ℕ) (a : Key) (i : ℕ) → i < k → get_or (padded k a) i 0 ≡ get_or a i 0
unfolding padded
same_byte zero a i h = absurd (omega (arith, h))
same_byte (suc k) [] zero h = refl
same_byte (suc k) [] (suc i) h = same_byte k [] i (omega (arith, h))
same_byte (suc k) (x ∷ a) zero h = refl
same_byte (suc k) (x ∷ a) (suc i) h = same_byte k a i (omega (arith, h))

same_number : (a : Key) → front a ≡ from_be_bytes w64 a
unfolding front
same_number a = omega (arith, same_byte 8 a 0 (omega arith), same_byte 8 a 1 (omega arith), same_byte 8 a 2 (omega arith), same_byte 8 a 3 (omega arith), same_byte 8 a 4 (omega arith), same_byte 8 a 5 (omega arith), same_byte 8 a 6 (omega arith), same_byte 8 a 7 (omega arith))

-- times 256, a number of eight bytes loses the first of them
first_lost : (x a b c d e f g : ℕ) → a < 256 → b < 256 → c < 256 → d < 256 → e < 256 → f < 256 → g < 256
    → (x * 72057594037927936 + a * 281474976710656 + b * 1099511627776 + c * 4294967296 + d * 16777216 + e * 65536 + f * 256 + g) * 256 % 2 ^ 64
    ≡ a * 72057594037927936 + b * 281474976710656 + c * 1099511627776 + d * 4294967296 + e * 16777216 + f * 65536 + g * 256
first_lost x a b c d e f g a' b' c' d' e' f' g' = omega arith

one_shifted : (x : ℕ) (a : Key) → length a ≤ 7 → ((i : ℕ) → get_or a i 0 < 256) → front (x ∷ a) * 256 % 2 ^ 64 ≡ front a
one_shifted x a h low =
    let none : get_or a 7 0 ≡ 0 = get_or_past a 7 0 h in
    let lost : from_be_bytes w64 (x ∷ a) * 256 % 2 ^ 64 ≡ from_be_bytes w64 a = omega (arith, none, first_lost x (get_or a 0 0) (get_or a 1 0) (get_or a 2 0) (get_or a 3 0) (get_or a 4 0) (get_or a 5 0) (get_or a 6 0) (low 0) (low 1) (low 2) (low 3) (low 4) (low 5) (low 6)) in
    ap (λ n. n * 256 % 2 ^ 64) (same_number (x ∷ a)) ∙ (lost ∙ sym (same_number a))

-- a shift by one byte more
byte_more : (k n : ℕ) → n * 2 ^ (8 * suc k) ≡ n * 256 * 2 ^ (8 * k)
byte_more k n =
    let wider : 2 ^ (8 * suc k) ≡ 256 * 2 ^ (8 * k) = ap (λ e. 2 ^ e) (omega arith) ∙ pow-add 2 8 (8 * k) in
    ap (λ p. n * p) wider ∙ sym (mul_assoc n 256 (2 ^ (8 * k)))

shifted : (k : ℕ) (a : Key) (n : ℕ) → length a ≤ 8 → ((i : ℕ) → get_or a i 0 < 256) → n < 2 ^ 64 → n ≡ front a → n * 2 ^ (8 * k) % 2 ^ 64 ≡ front (drop k a)
shifted zero a n h low fits is = omega arith ∙ is
shifted (suc k) [] n h low fits is =
    let none : n ≡ 0 = is ∙ same_number [] in
    ap (λ m. m * 2 ^ (8 * suc k) % 2 ^ 64) none ∙ (omega arith ∙ sym (same_number []))
shifted (suc k) (x ∷ a) n h low fits is =
    let rest : n * 256 % 2 ^ 64 ≡ front a = ap (λ m. m * 256 % 2 ^ 64) is ∙ one_shifted x a (omega arith) (λ i. low (suc i)) in
    ap (λ m. m % 2 ^ 64) (byte_more k n)
    ∙ (sym (mul-mod_first (n * 256) (2 ^ (8 * k)) (2 ^ 64)) ∙ shifted k a (n * 256 % 2 ^ 64) (omega arith) (λ i. low (suc i)) (mod_below (n * 256) (2 ^ 64) (omega arith)) rest)

-- the same in two steps
twice : (k n : ℕ) → n * 2 ^ (8 * k) % 2 ^ 64 * 256 % 2 ^ 64 ≡ n * 2 ^ (8 * suc k) % 2 ^ 64
twice k n =
    mul-mod_first (n * 2 ^ (8 * k)) 256 (2 ^ 64)
    ∙ ap (λ m. m % 2 ^ 64) (mul_assoc n (2 ^ (8 * k)) 256 ∙ (ap (λ m. n * m) (mul_comm (2 ^ (8 * k)) 256) ∙ (sym (mul_assoc n 256 (2 ^ (8 * k))) ∙ sym (byte_more k n))))

-- the front of fewer than the last eight bytes
pub front_left : (a : Key) (start n : ℕ) (h : 8 ≤ length a) → start ≤ length a → length a - start < 8
    → n < 2 ^ 64 → ((i : ℕ) → get_or (behind_at (length a - 8) a) i 0 < 256) → n ≡ from_be_bytes w64 (take 8 (behind_at (length a - 8) a))
    → n * 2 ^ (8 * (7 - (length a - start))) % 2 ^ 64 * 256 % 2 ^ 64 ≡ front (drop start a)
front_left a start n h within few fits low is =
    let k = 7 - (length a - start) in
    let place : length a - 8 + suc k ≡ start = omega arith in
    let eight : length (end a h) ≤ 8 = omega (arith, length-end a h) in
    twice k n
    ∙ (shifted (suc k) (end a h) n eight (end_low a h low) fits (end_front a h n is) ∙ (ap front (drop-drop (suc k) (length a - 8) a) ∙ ap (λ i. front (drop i a)) place))

-- ---- the first bytes of two numbers

byte_is : (k n : ℕ) → byte_at k n ≡ n / 256 ^ k % 256
byte_is zero n = omega arith
byte_is (suc k) n = refl

byte_above : (n w k x : ℕ) → w ≡ n + k → byte_at w x ≡ x / 256 ^ k / 256 ^ n % 256
byte_above n w k x h =
    let unit : 256 ^ w ≡ 256 ^ k * 256 ^ n = ap (λ i. 256 ^ i) h ∙ (pow-add 256 n k ∙ mul_comm (256 ^ n) (256 ^ k)) in
    byte_is w x ∙ ap (λ m. m % 256) (ap (λ p. x / p) unit ∙ sym (div-div-eq-div-mul x (256 ^ k) (256 ^ n)))

-- they are the same where the numbers without the bytes behind them are
same_above : (n w k x y : ℕ) → w ≡ n + k → x / 256 ^ k ≡ y / 256 ^ k → take n (bytes_high_first w x) ≡ take n (bytes_high_first w y)
same_above zero w k x y h e = refl
same_above (suc n) zero k x y h e = absurd (omega (arith, h))
same_above (suc n) (suc w) k x y h e =
    let place : w ≡ n + k = omega (arith, h) in
    let first : byte_at w x ≡ byte_at w y = byte_above n w k x place ∙ (ap (λ m. m / 256 ^ n % 256) e ∙ sym (byte_above n w k y place)) in
    ap (λ (z : Key). byte_at w x ∷ z) (same_above n w k x y place e) ∙ ap (λ b. b ∷ take n (bytes_high_first w y)) first

-- the first of them apart
one_above : (n w k x : ℕ) → w ≡ n + k → x % 256 ^ suc w / 256 ^ k ≡ x % 256 ^ w / 256 ^ k + byte_at w x * 256 ^ n
one_above n w k x h =
    let some : 0 < 256 ^ k = pow-le-pow_right {n = 256} (omega arith) {i = 0} {j = k} (omega arith) in
    let unit : byte_at w x * 256 ^ w ≡ byte_at w x * 256 ^ n * 256 ^ k = ap (λ i. byte_at w x * 256 ^ i) h ∙ (ap (λ p. byte_at w x * p) (pow-add 256 n k) ∙ sym (mul_assoc (byte_at w x) (256 ^ n) (256 ^ k))) in
    let split : x % 256 ^ suc w ≡ x % 256 ^ w + byte_at w x * 256 ^ n * 256 ^ k = omega (arith, byte_on w x, unit) in
    ap (λ m. m / 256 ^ k) split ∙ add-mul-div_right (x % 256 ^ w) (byte_at w x * 256 ^ n) some

above_same : (n w k x y : ℕ) → w ≡ n + k → take n (bytes_high_first w x) ≡ take n (bytes_high_first w y) → x % 256 ^ w / 256 ^ k ≡ y % 256 ^ w / 256 ^ k
above_same zero w k x y h e =
    let some : 0 < 256 ^ k = pow-le-pow_right {n = 256} (omega arith) {i = 0} {j = k} (omega arith) in
    let level : w ≡ k = omega (arith, h) in
    let none : (m : ℕ) → m % 256 ^ k / 256 ^ k < 1 = λ m. div_below (m % 256 ^ k) (256 ^ k) 1 some (omega (arith, mod_below m (256 ^ k) some)) in
    let both : x % 256 ^ k / 256 ^ k ≡ y % 256 ^ k / 256 ^ k = omega (arith, none x, none y) in
    ap (λ i. x % 256 ^ i / 256 ^ k) level ∙ (both ∙ ap (λ i. y % 256 ^ i / 256 ^ k) (sym level))
above_same (suc n) zero k x y h e = absurd (omega (arith, h))
above_same (suc n) (suc w) k x y h e =
    let place : w ≡ n + k = omega (arith, h) in
    let first : byte_at w x ≡ byte_at w y = ap (λ (l : Key). get_or l 0 0) e in
    let rest : x % 256 ^ w / 256 ^ k ≡ y % 256 ^ w / 256 ^ k = above_same n w k x y place (ap (drop 1) e) in
    one_above n w k x place ∙ (ap (λ m. m + byte_at w x * 256 ^ n) rest ∙ (ap (λ b. y % 256 ^ w / 256 ^ k + b * 256 ^ n) first ∙ sym (one_above n w k y place)))

bits_of_bytes : (k : ℕ) → 2 ^ (8 * k) ≡ 256 ^ k
bits_of_bytes zero = refl
bits_of_bytes (suc k) = ap (λ e. 2 ^ e) (omega arith) ∙ (pow-add 2 8 (8 * k) ∙ (ap (λ p. 256 * p) (bits_of_bytes k) ∙ sym (pow-succ' 256 k)))

-- ---- whether one begins with another

first_bytes : (a : Key) (n m : ℕ) → n ≤ 8 → n ≤ length a → ((i : ℕ) → get_or a i 0 < 256) → m ≡ front a → take n (bytes_high_first 8 m) ≡ take n a
unfolding front
first_bytes a n m h within low is = ap (take n) (be_bytes_8 (padded 8 a) m (length-padded 8 a) (padded_low 8 a low) is) ∙ (take-padded n 8 a h ∙ padded-long n a within)

module _ (a b : Key) (x y : ℕ) (long : 8 ≤ length a) (short : length b ≤ 8) (low-a : (i : ℕ) → get_or a i 0 < 256) (low-b : (i : ℕ) → get_or b i 0 < 256) (x-is : x ≡ from_be_bytes w64 (take 8 a)) (y-is : y ≡ front b) (x-fits : x < 2 ^ 64) (y-fits : y < 2 ^ 64) where
  abbrev pub left : ℕ
  left = 8 - length b

  eight : 8 ≡ length b + left
  eight = omega arith

  first-a : take (length b) (bytes_high_first 8 x) ≡ take (length b) a
  first-a = first_bytes a (length b) x short (omega arith) low-a (front-long a x long x-is)

  first-b : take (length b) (bytes_high_first 8 y) ≡ b
  first-b = first_bytes b (length b) y short (omega arith) low-b y-is ∙ take_all (length b) b (omega arith)

  whole : (m : ℕ) → m < 2 ^ 64 → m % 256 ^ 8 ≡ m
  whole m fits = omega arith

  begins : x / 2 ^ (8 * left) ≡ y / 2 ^ (8 * left) → take (length b) a ≡ b
  begins e =
      let level : x / 256 ^ left ≡ y / 256 ^ left = ap (λ p. x / p) (sym (bits_of_bytes left)) ∙ (e ∙ ap (λ p. y / p) (bits_of_bytes left)) in
      sym first-a ∙ (same_above (length b) 8 left x y eight level ∙ first-b)

  begins_so : take (length b) a ≡ b → x / 2 ^ (8 * left) ≡ y / 2 ^ (8 * left)
  begins_so e =
      let level : x % 256 ^ 8 / 256 ^ left ≡ y % 256 ^ 8 / 256 ^ left = above_same (length b) 8 left x y eight (first-a ∙ (e ∙ sym first-b)) in
      ap (λ p. x / p) (bits_of_bytes left)
      ∙ (ap (λ m. m / 256 ^ left) (sym (whole x x-fits)) ∙ (level ∙ (ap (λ m. m / 256 ^ left) (whole y y-fits) ∙ ap (λ p. y / p) (sym (bits_of_bytes left)))))

  told : (t : Bool) → Decides t (x / 2 ^ (8 * left) ≡ y / 2 ^ (8 * left)) → MatchBool t (take (length b) a ≡ b) (take (length b) a ≡ b → ⊥)
  told true d = begins (d.0 refl)
  told false d = λ e. true≢false (sym (d.1 (begins_so e)))

  pub begins_told : MatchBool (nat_eq (x / 2 ^ (8 * left)) (y / 2 ^ (8 * left))) (take (length b) a ≡ b) (take (length b) a ≡ b → ⊥)
  begins_told = told (nat_eq (x / 2 ^ (8 * left)) (y / 2 ^ (8 * left))) (Decides-eqb (x / 2 ^ (8 * left)) (y / 2 ^ (8 * left)))
