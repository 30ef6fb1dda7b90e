-- The order of byte strings by their fronts.
use Rattle.std.proofs.Common.{Global, ◌≡◌, ℕ, zero, suc, ◌+◌, ◌-◌, ◌*◌, ◌%◌, ◌^◌, ◌<◌, ◌≤◌, [], ◌∷◌, ◌++◌, refl, sym, ap, subst, ◌∙◌, inl, inr, arith, pow-suc, mul_comm, take, drop, length, get_or, replicate, length-drop, append_assoc}
use Rattle.std.proofs.Math.Nat.{pow-le-pow_right}
use Rattle.std.proofs.Math.Arith.{mod-mul}
use Rattle.std.proofs.lemmas.Bool.{cases_order, lt-ltb, le-ltb, ne_eqb}
use Rattle.std.proofs.lemmas.Cmp.{nat_cmp_total, tied_itself}
use Rattle.std.proofs.lemmas.List.{append-nil, take-append-drop, take_all, length-take, length-append, drop-append-le}
use Rattle.std.proofs.lemmas.Nat.{row_fits, mod_below, be_bytes_8}
use Rattle.std.specs.Int.{byte_at, bytes_high_first, to_be_bytes, from_be_bytes, w64}
use Rattle.std.specs.Ordering.{ordering_then, ordering_reverse, nat_cmp}
use Rattle.std.specs.Cmp.Lexicographic.{slice_cmp, nat_list_cmp_total}
use Rattle.std.specs.declared.cmp.Ordering.{Ordering}
use Rattle.std.specs.declared.cmp.Ordering.TheVariants.{Less, Equal, Greater}
use Rattle.sled_nodes.specs.Order.{Key}
use Rattle.std.specs.Arc.{arc_value}
use Rattle.std.specs.declared.sync.Arc.{Arc}
use Rattle.sled_nodes.specs.Bytes.{padded, IsShort}
use Rattle.sled_nodes.specs.declared.ivec.Bytes.{Bytes}
use Rattle.sled_nodes.specs.declared.ivec.Bytes.TheVariants.{Short, Middle}
use Rattle.sled_nodes.specs.theory.Fronts.{front, AreBehind}

abbrev pub bytes_cmp : Key → Key → Ordering
bytes_cmp = slice_cmp nat_cmp

-- ---- numbers by their bytes

pub then_assoc : (o p q : Ordering) → ordering_then (ordering_then o p) q ≡ ordering_then o (ordering_then p q)
then_assoc Less p q = refl
then_assoc Equal p q = refl
then_assoc Greater p q = refl

pub cmp_less : (m n : ℕ) → m < n → nat_cmp m n ≡ Less
cmp_less m n h = rw (lt-ltb m n h) refl

pub cmp_greater : (m n : ℕ) → n < m → nat_cmp m n ≡ Greater
cmp_greater m n h =
    let past : n ≤ m = omega arith in
    rw (le-ltb m n past, ne_eqb m n (λ (e : m ≡ n). omega arith)) refl

cmp_same : (m n : ℕ) → m ≡ n → nat_cmp m n ≡ Equal
cmp_same m n e = ap (nat_cmp m) (sym e) ∙ tied_itself nat_cmp_total m

-- two numbers compare as two others do
cmp_like : (x y m n : ℕ) → (x < y → m < n) → (x ≡ y → m ≡ n) → (y < x → n < m) → nat_cmp m n ≡ nat_cmp x y
cmp_like x y m n below level above =
    elim (cases_order x y) [
      | inl e ↦ cmp_same m n (level e) ∙ sym (cmp_same x y e)
      | inr o ↦ elim o [ inl lt ↦ cmp_less m n (below lt) ∙ sym (cmp_less x y lt) | inr gt ↦ cmp_greater m n (above gt) ∙ sym (cmp_greater x y gt) ]
    ]

-- the first digit decides, and then the rest
digit_then : (a b r s unit : ℕ) → r < unit → s < unit → nat_cmp (a * unit + r) (b * unit + s) ≡ ordering_then (nat_cmp a b) (nat_cmp r s)
digit_then a b r s unit p q =
    elim (cases_order a b) [
      | inl e ↦
          let level : a * unit ≡ b * unit = ap (λ n. n * unit) e in
          cmp_like r s (a * unit + r) (b * unit + s) (λ h. omega arith) (λ h. omega arith) (λ h. omega arith) ∙ sym (ap (λ o. ordering_then o (nat_cmp r s)) (cmp_same a b e))
      | inr o ↦ elim o [
        | inl lt ↦
            let room : a * unit + unit ≤ b * unit = row_fits a unit b unit lt (omega arith) in
            cmp_less (a * unit + r) (b * unit + s) (omega arith) ∙ sym (ap (λ o. ordering_then o (nat_cmp r s)) (cmp_less a b lt))
        | inr gt ↦
            let room : b * unit + unit ≤ a * unit = row_fits b unit a unit gt (omega arith) in
            cmp_greater (a * unit + r) (b * unit + s) (omega arith) ∙ sym (ap (λ o. ordering_then o (nat_cmp r s)) (cmp_greater a b gt))
      ]
    ]

-- byte k and the bytes below it
pub byte_on : (k n : ℕ) → byte_at k n * 256 ^ k + n % 256 ^ k ≡ n % 256 ^ suc k
byte_on zero n = omega arith
byte_on (suc k) n =
    let unit = 256 ^ suc k in
    let wider : 256 ^ suc (suc k) ≡ 256 * unit = pow-suc 256 (suc k) ∙ mul_comm unit 256 in
    let some : 0 < unit = pow-le-pow_right {n = 256} (omega arith) {i = 0} {j = suc k} (omega arith) in
    rw (wider, mod-mul n {m = 256} {c = unit} (omega arith) some) refl

-- the low k bytes of two numbers, and what follows them
low_then : (k m n : ℕ) (x y : Key) → bytes_cmp (bytes_high_first k m ++ x) (bytes_high_first k n ++ y) ≡ ordering_then (nat_cmp (m % 256 ^ k) (n % 256 ^ k)) (bytes_cmp x y)
low_then zero m n x y =
    let e : m % 256 ^ 0 ≡ n % 256 ^ 0 = omega arith in
    sym (ap (λ o. ordering_then o (bytes_cmp x y)) (cmp_same (m % 256 ^ 0) (n % 256 ^ 0) e))
low_then (suc k) m n x y =
    let some : 0 < 256 ^ k = pow-le-pow_right {n = 256} (omega arith) {i = 0} {j = k} (omega arith) in
    let first = nat_cmp (byte_at k m) (byte_at k n) in
    let then = nat_cmp (m % 256 ^ k) (n % 256 ^ k) in
    let both : nat_cmp (m % 256 ^ suc k) (n % 256 ^ suc k) ≡ ordering_then first then =
    ap (λ a. nat_cmp a (n % 256 ^ suc k)) (sym (byte_on k m)) ∙ (ap (λ b. nat_cmp (byte_at k m * 256 ^ k + m % 256 ^ k) b) (sym (byte_on k n))
    ∙ digit_then (byte_at k m) (byte_at k n) (m % 256 ^ k) (n % 256 ^ k) (256 ^ k) (mod_below m (256 ^ k) some) (mod_below n (256 ^ k) some)) in
    ap (ordering_then first) (low_then k m n x y) ∙ (sym (then_assoc first then (bytes_cmp x y)) ∙ ap (λ o. ordering_then o (bytes_cmp x y)) (sym both))

-- two numbers of eight bytes, and what follows them
pub number_then : (m n : ℕ) (x y : Key) → m < 2 ^ 64 → n < 2 ^ 64 → bytes_cmp (to_be_bytes w64 m ++ x) (to_be_bytes w64 n ++ y) ≡ ordering_then (nat_cmp m n) (bytes_cmp x y)
number_then m n x y p q =
    let whole : m % 256 ^ 8 ≡ m = omega arith in
    let entire : n % 256 ^ 8 ≡ n = omega arith in
    low_then 8 m n x y ∙ (ap (λ a. ordering_then (nat_cmp a (n % 256 ^ 8)) (bytes_cmp x y)) whole ∙ ap (λ b. ordering_then (nat_cmp m b) (bytes_cmp x y)) entire)

-- ---- with zeros behind

less_on : (o p q : Ordering) → (p ≡ Less → q ≡ Less) → ordering_then o p ≡ Less → ordering_then o q ≡ Less
less_on Less p q f e = refl
less_on Equal p q f e = f e
less_on Greater p q f e = cc

-- nothing stands before the empty byte string
none_below : (a : Key) → bytes_cmp a [] ≡ Less → ⊥
none_below [] e = cc
none_below (x ∷ a) e = cc

padded_less : (k : ℕ) (a b : Key) → bytes_cmp (padded k a) (padded k b) ≡ Less → bytes_cmp a b ≡ Less
unfolding padded
padded_less zero a b e = cc
padded_less (suc k) [] [] e = padded_less k [] [] e
padded_less (suc k) [] (y ∷ b) e = refl
padded_less (suc k) (zero ∷ a) [] e = absurd (none_below a (padded_less k a [] e))
padded_less (suc k) (suc x ∷ a) [] e =
    let greater : nat_cmp (suc x) 0 ≡ Greater = cmp_greater (suc x) 0 (omega arith) in
    let not : Greater ≡ Less = sym (ap (λ o. ordering_then o (bytes_cmp (padded k a) (padded k []))) greater) ∙ e in
    cc
padded_less (suc k) (x ∷ a) (y ∷ b) e = less_on (nat_cmp x y) (bytes_cmp (padded k a) (padded k b)) (bytes_cmp a b) (padded_less k a b) e

pub length-padded : (k : ℕ) (a : Key) → length (padded k a) ≡ k
unfolding padded
length-padded zero a = refl
length-padded (suc k) [] = ap suc (length-padded k [])
length-padded (suc k) (x ∷ a) = ap suc (length-padded k a)

pub padded_low : (k : ℕ) (a : Key) → ((i : ℕ) → get_or a i 0 < 256) → (i : ℕ) → get_or (padded k a) i 0 < 256
unfolding padded
padded_low zero a low i = omega arith
padded_low (suc k) [] low zero = omega arith
padded_low (suc k) [] low (suc i) = padded_low k [] (λ j. omega arith) i
padded_low (suc k) (x ∷ a) low zero = low 0
padded_low (suc k) (x ∷ a) low (suc i) = padded_low k a (λ j. low (suc j)) i

-- the first of more
pub take-padded : (m n : ℕ) (a : Key) → m ≤ n → take m (padded n a) ≡ padded m a
unfolding padded
take-padded zero n a h = refl
take-padded (suc m) zero a h = absurd (omega (arith, h))
take-padded (suc m) (suc n) [] h = ap (λ (z : Key). 0 ∷ z) (take-padded m n [] (omega (arith, h)))
take-padded (suc m) (suc n) (x ∷ a) h = ap (λ (z : Key). x ∷ z) (take-padded m n a (omega (arith, h)))

-- a long one is as it is
pub padded-long : (k : ℕ) (a : Key) → k ≤ length a → padded k a ≡ take k a
unfolding padded
padded-long zero a h = refl
padded-long (suc k) [] h = absurd (omega (arith, h))
padded-long (suc k) (x ∷ a) h = ap (λ (z : Key). x ∷ z) (padded-long k a (omega (arith, h)))

-- a short one over zeros
pub padded-over : (k : ℕ) (a : Key) → length a ≤ k → a ++ drop (length a) (replicate k 0) ≡ padded k a
unfolding padded
padded-over zero [] h = refl
padded-over zero (x ∷ a) h = absurd (omega (arith, h))
padded-over (suc k) [] h = ap (λ (z : Key). 0 ∷ z) (padded-over k [] (omega arith))
padded-over (suc k) (x ∷ a) h = ap (λ (z : Key). x ∷ z) (padded-over k a (omega (arith, h)))

-- what is copied over zeros
take_front : (a z : Key) → take (length a) (a ++ z) ≡ a
take_front [] z = refl
take_front (x ∷ a) z = ap (λ (y : Key). x ∷ y) (take_front a z)

pub padded-copied : (k : ℕ) (a copy : Key) → length a ≤ k → copy ≡ a → (length a ≤ k) × (padded k (take (length a) (copy ++ drop (length a) (replicate k 0))) ≡ copy ++ drop (length a) (replicate k 0))
padded-copied k a copy h e = (h, subst (λ (c : Key). padded k (take (length a) (c ++ drop (length a) (replicate k 0))) ≡ c ++ drop (length a) (replicate k 0)) (sym e) (ap (padded k) (take_front a (drop (length a) (replicate k 0))) ∙ sym (padded-over k a h)))

-- what was filled up with zeros
pub taken-padded : (k : ℕ) (a array : Key) → length a ≤ k → array ≡ padded k a → take (length a) array ≡ a
taken-padded k a array h e = ap (take (length a)) (e ∙ sym (padded-over k a h)) ∙ take_front a (drop (length a) (replicate k 0))

-- ---- bytes

pub low_take : (k : ℕ) (a : Key) → ((i : ℕ) → get_or a i 0 < 256) → (i : ℕ) → get_or (take k a) i 0 < 256
low_take zero a low i = omega arith
low_take (suc k) [] low i = omega arith
low_take (suc k) (x ∷ a) low zero = low 0
low_take (suc k) (x ∷ a) low (suc i) = low_take k a (λ j. low (suc j)) i

-- ---- fronts

module _ (a b : Key) (low-a : (i : ℕ) → get_or a i 0 < 256) (low-b : (i : ℕ) → get_or b i 0 < 256) (m n : ℕ) (m-is : m ≡ front a) (n-is : n ≡ front b) (m-fits : m < 2 ^ 64) (n-fits : n < 2 ^ 64) where
  then_equal : (o : Ordering) → ordering_then o Equal ≡ o
  then_equal Less = refl
  then_equal Equal = refl
  then_equal Greater = refl

  bytes_of_front : (c : Key) (l : ℕ) → ((i : ℕ) → get_or c i 0 < 256) → l ≡ front c → to_be_bytes w64 l ++ [] ≡ padded 8 c
  unfolding front
  bytes_of_front c l low is = append-nil (to_be_bytes w64 l) ∙ be_bytes_8 (padded 8 c) l (length-padded 8 c) (padded_low 8 c low) is

  fronts : bytes_cmp (padded 8 a) (padded 8 b) ≡ nat_cmp m n
  fronts =
      ap (λ (z : Key). bytes_cmp z (padded 8 b)) (sym (bytes_of_front a m low-a m-is))
      ∙ (ap (bytes_cmp (to_be_bytes w64 m ++ [])) (sym (bytes_of_front b n low-b n-is)) ∙ (number_then m n [] [] m-fits n-fits ∙ then_equal (nat_cmp m n)))

  pub front_below : m < n → bytes_cmp a b ≡ Less
  front_below h = padded_less 8 a b (fronts ∙ cmp_less m n h)

  pub front_above : n < m → bytes_cmp a b ≡ Greater
  front_above h =
      let turned : bytes_cmp (padded 8 b) (padded 8 a) ≡ Less = nat_list_cmp_total.antisymm (padded 8 b) (padded 8 a) ∙ ap ordering_reverse (fronts ∙ cmp_greater m n h) in
      nat_list_cmp_total.antisymm a b ∙ ap ordering_reverse (padded_less 8 b a turned)

-- the front of eight bytes or more
pub front-long : (a : Key) (n : ℕ) → 8 ≤ length a → n ≡ from_be_bytes w64 (take 8 a) → n ≡ front a
unfolding front
front-long a n h is = is ∙ ap (from_be_bytes w64) (sym (padded-long 8 a h))

-- that of what lies in an array with zeros behind it
pub front-in : (array a : Key) (k n : ℕ) → 8 ≤ k → padded k a ≡ array → n ≡ from_be_bytes w64 (take 8 array) → n ≡ front a
unfolding front
front-in array a k n h e is = is ∙ ap (from_be_bytes w64) (ap (take 8) (sym e) ∙ take-padded 8 k a h)

-- ---- byte strings where they lie

pub short_padded : (bytes : Bytes) (len : ℕ) (array : Key) → bytes ≡ Short len array → IsShort bytes → padded 22 (take len array) ≡ array
short_padded bytes len array e h = (subst IsShort e h).1

pub middle_padded : (bytes : Bytes) (len : ℕ) (array : Arc Key Global) → bytes ≡ Middle len array → IsShort bytes → padded 56 (take len (arc_value array)) ≡ arc_value array
middle_padded bytes len array e h = (subst IsShort e h).1

pub array-long : (array a : Key) (k : ℕ) → 8 ≤ k → padded k a ≡ array → 8 ≤ length array
array-long array a k h e = let l : k ≡ length array = sym (length-padded k a) ∙ ap length e in omega arith

-- ---- what lies behind the first bytes

abbrev pub behind_at : ℕ → Key → Key
behind_at k a = take (length a - k) (drop k a)

abbrev pub behind : Key → Key
behind a = take (length a - 8) (drop 8 a)

behind-is : (a : Key) → behind a ≡ drop 8 a
behind-is a = let l : length (drop 8 a) ≤ length a - 8 = omega (arith, length-drop 8 a) in take_all (length a - 8) (drop 8 a) l

split_eight : (a : Key) (n : ℕ) → 8 ≤ length a → ((i : ℕ) → get_or a i 0 < 256) → n ≡ from_be_bytes w64 (take 8 a) → to_be_bytes w64 n ++ behind a ≡ a
split_eight a n h low is =
    let eight : length (take 8 a) ≡ 8 = omega (arith, length-take 8 a) in
    ap (λ (z : Key). z ++ behind a) (be_bytes_8 (take 8 a) n eight (low_take 8 a low) is)
    ∙ (ap (λ (z : Key). take 8 a ++ z) (behind-is a) ∙ take-append-drop 8 a)

-- the same byte string
pub tied_same : (a b : Key) → a ≡ b → bytes_cmp a b ≡ Equal
tied_same a b e = ap (bytes_cmp a) (sym e) ∙ tied_itself nat_list_cmp_total a

-- byte strings of one length that have no more bytes are the same where their fronts are
pub front_same : (a b : Key) → ((i : ℕ) → get_or a i 0 < 256) → ((i : ℕ) → get_or b i 0 < 256) → front a ≡ front b → length b ≤ 8 → length a ≡ length b → bytes_cmp a b ≡ Equal
unfolding front
front_same a b low-a low-b e h same =
    let bytes : padded 8 a ≡ padded 8 b = sym (be_bytes_8 (padded 8 a) (front a) (length-padded 8 a) (padded_low 8 a low-a) refl) ∙ (ap (to_be_bytes w64) e ∙ be_bytes_8 (padded 8 b) (front b) (length-padded 8 b) (padded_low 8 b low-b) refl) in
    let h-a : length a ≤ 8 = omega arith in
    let is : a ≡ b = sym (taken-padded 8 a (padded 8 a) h-a refl) ∙ (ap (λ n. take n (padded 8 a)) same ∙ (ap (take (length b)) bytes ∙ taken-padded 8 b (padded 8 b) h refl)) in
    tied_same a b is

-- ---- behind the same bytes

-- the same bytes before them change nothing
cmp_behind : (before a b : Key) → bytes_cmp (before ++ a) (before ++ b) ≡ bytes_cmp a b
cmp_behind [] a b = refl
cmp_behind (x ∷ before) a b = ap (λ o. ordering_then o (bytes_cmp (before ++ a) (before ++ b))) (cmp_same x x refl) ∙ cmp_behind before a b

pub behind_cmp : (a b rest other : Key) → AreBehind a b rest other → bytes_cmp rest other ≡ bytes_cmp a b
behind_cmp a b rest other w = sym (cmp_behind w.before rest other) ∙ (ap (λ (z : Key). bytes_cmp z (w.before ++ other)) (sym w.is) ∙ ap (bytes_cmp a) (sym w.other_is))

-- eight bytes more are the same
eight_more : (a before rest : Key) (n : ℕ) → a ≡ before ++ rest → 8 ≤ length rest → ((i : ℕ) → get_or rest i 0 < 256) → n ≡ from_be_bytes w64 (take 8 rest) → a ≡ (before ++ to_be_bytes w64 n) ++ behind rest
eight_more a before rest n is h low n-is = is ∙ (ap (λ (z : Key). before ++ z) (sym (split_eight rest n h low n-is)) ∙ sym (append_assoc before (to_be_bytes w64 n) (behind rest)))

pub behind_eight : (a b rest other : Key) (m n : ℕ) → AreBehind a b rest other → 8 ≤ length rest → 8 ≤ length other → ((i : ℕ) → get_or rest i 0 < 256) → ((i : ℕ) → get_or other i 0 < 256) → m ≡ from_be_bytes w64 (take 8 rest) → n ≡ from_be_bytes w64 (take 8 other) → m ≡ n → AreBehind a b (behind rest) (behind other)
behind_eight a b rest other m n w h k low other-low m-is n-is e = record {
  before = w.before ++ to_be_bytes w64 m;
  is = eight_more a w.before rest m w.is h low m-is;
  other_is = eight_more b w.before other n w.other_is k other-low n-is ∙ ap (λ l. (w.before ++ to_be_bytes w64 l) ++ behind other) (sym e);
}

-- as much is left of two of one length
pub left_same : (a b rest other : Key) → AreBehind a b rest other → length a ≡ length b → length rest ≡ length other
left_same a b rest other w same =
    let sum : length a ≡ length w.before + length rest = ap length w.is ∙ length-append w.before rest in
    let other_sum : length b ≡ length w.before + length other = ap length w.other_is ∙ length-append w.before other in
    omega arith

-- of two of one length the last eight bytes tell all that is left
pub last_eight : (a b rest other : Key) → AreBehind a b rest other → length a ≡ length b → 8 ≤ length a → length rest ≤ 8 → bytes_cmp (drop (length a - 8) a) (drop (length b - 8) b) ≡ bytes_cmp a b
last_eight a b rest other w same long short =
    let k = length a - 8 in
    let sum : length a ≡ length w.before + length rest = ap length w.is ∙ length-append w.before rest in
    let fits : length a - 8 ≤ length w.before = omega arith in
    let end : drop k a ≡ drop k w.before ++ rest = ap (drop k) w.is ∙ drop-append-le k w.before rest fits in
    let other_end : drop (length b - 8) b ≡ drop k w.before ++ other = ap (λ n. drop (n - 8) b) (sym same) ∙ (ap (drop k) w.other_is ∙ drop-append-le k w.before other fits) in
    ap (λ (z : Key). bytes_cmp z (drop (length b - 8) b)) end ∙ (ap (bytes_cmp (drop k w.before ++ rest)) other_end ∙ (cmp_behind (drop k w.before) rest other ∙ behind_cmp a b rest other w))

-- of two of one length whose fronts are the same, and which have eight bytes more at most
pub last_of_two : (a b : Key) → ((i : ℕ) → get_or a i 0 < 256) → ((i : ℕ) → get_or b i 0 < 256) → front a ≡ front b → length a ≡ length b → 8 ≤ length a → length a ≤ 16 → bytes_cmp (drop (length a - 8) a) (drop (length b - 8) b) ≡ bytes_cmp a b
unfolding front
last_of_two a b low-a low-b e same long short =
    let long-b : 8 ≤ length b = omega arith in
    let start : AreBehind a b a b = record { before = []; is = refl; other_is = refl } in
    let w = behind_eight a b a b (front a) (front b) start long long-b low-a low-b (ap (from_be_bytes w64) (padded-long 8 a long)) (ap (from_be_bytes w64) (padded-long 8 b long-b)) e in
    let few : length (behind a) ≤ 8 = omega (arith, length-take (length a - 8) (drop 8 a), length-drop 8 a) in
    last_eight a b (behind a) (behind b) w same long few

-- the last eight bytes
module _ (a : Key) (h : 8 ≤ length a) where
  abbrev pub end : Key
  end = drop (length a - 8) a

  pub end-is : behind_at (length a - 8) a ≡ end
  end-is = let l : length (drop (length a - 8) a) ≤ length a - (length a - 8) = omega (arith, length-drop (length a - 8) a) in take_all (length a - (length a - 8)) (drop (length a - 8) a) l

  pub length-end : length end ≡ 8
  length-end = omega (arith, length-drop (length a - 8) a)

  pub end_low : ((i : ℕ) → get_or (behind_at (length a - 8) a) i 0 < 256) → (i : ℕ) → get_or end i 0 < 256
  end_low low = subst (λ (z : Key). (i : ℕ) → get_or z i 0 < 256) end-is low

  pub end_front : (n : ℕ) → n ≡ from_be_bytes w64 (take 8 (behind_at (length a - 8) a)) → n ≡ front end
  end_front n is = let long : 8 ≤ length end = omega (arith, length-end) in front-long end n long (is ∙ ap (λ (z : Key). from_be_bytes w64 (take 8 z)) end-is)
