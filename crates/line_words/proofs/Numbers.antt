-- Laws of numbers in decimal.
use Rattle.std.proofs.Common.{◌≡◌, ℕ, suc, zero, ◌==◌, if◌then◌else◌, ◌+◌, ◌*◌, ◌<◌, ◌≤◌, ◌&&◌, Bool, true, false, List, [], ◌∷◌, length, get_or, drop, refl, ap, ◌∙◌, sym, Some, None, nat_lt, ◌^◌, arith, add-one}
use Rattle.std.proofs.Math.ListN.{drop_of_length-le}
use Rattle.std.proofs.lemmas.Bool.{cond-true, cond-false, lt-ltb, le-ltb, ltb-true, eqb-false}
use Rattle.std.proofs.lemmas.Bool.Decides.{nat_tests}
use Rattle.std.proofs.Math.Bool.{and-false}
use Rattle.std.specs.Str.Parse.{digits_value}
use Rattle.std.specs.Fmt.{decimal}
use Rattle.std.proofs.lemmas.Str.Parse.{IsNumeralModel, numerals_by_value, tells_all_ascii_digits}
use Rattle.std.proofs.lemmas.Fmt.{digits_value-decimal, decimal-digits_value, digits_decimal, decimal_digit, decimal_nonempty, first_decimal}
use Rattle.line_words.specs.Words.{number_of, read_number, ReadsDecimals}
use Rattle.std.proofs.Math.Seq.{drop-cons}
use Rattle.std.specs.Char.{is_ascii_digit, digit_value}
use Rattle.std.specs.Str.{all_ascii_digits}
use Rattle.std.specs.Str.Parse.{digits_value_after}
use Rattle.sled_nodes.proofs.Basics.{none_some, both_true}

-- digits are read one by one
pub all_ascii_digits-drop : (word : List ℕ) (i : ℕ) → i < length word → all_ascii_digits (drop i word) ≡ (is_ascii_digit (get_or word i 0) && all_ascii_digits (drop (i + 1) word))
all_ascii_digits-drop word i h = rw (add-one, drop-cons word i 0) refl

pub digits_value_after-drop : (n : ℕ) (word : List ℕ) (i : ℕ) → i < length word → digits_value_after 10 n (drop i word) ≡ digits_value_after 10 (n * 10 + digit_value (get_or word i 0)) (drop (i + 1) word)
digits_value_after-drop n word i h = rw (add-one, drop-cons word i 0) refl

-- more digits never make less
pub le_digits_value_after : (n : ℕ) (word : List ℕ) → n ≤ digits_value_after 10 n word
le_digits_value_after n [] = omega arith
le_digits_value_after n (c ∷ cs) = omega (arith, le_digits_value_after (n * 10 + digit_value c) cs)

-- how the reading of digits ends: with a number that is too great, or after the last digit
pub number_of-too_great : (digits : List ℕ) (i n : ℕ) → i < length digits → digits_value_after 10 n (drop i digits) ≡ digits_value 10 digits → 2 ^ 64 ≤ n * 10 + digit_value (get_or digits i 0) → number_of digits ≡ None
number_of-too_great digits i n inside value great =
    let least = le_digits_value_after (n * 10 + digit_value (get_or digits i 0)) (drop (i + 1) digits) in
    let step = digits_value_after-drop n digits i inside in
    let great_value : 2 ^ 64 ≤ digits_value 10 digits = omega (arith, least, step, value, great) in
    let test : nat_lt (digits_value 10 digits) (2 ^ 64) ≡ false = le-ltb (digits_value 10 digits) (2 ^ 64) great_value in
    cond-false _ _ _ (ap (λ x. all_ascii_digits digits && x) test ∙ and-false (all_ascii_digits digits))

pub number_of-all : (digits : List ℕ) (i n : ℕ) → length digits ≤ i → all_ascii_digits (drop i digits) ≡ all_ascii_digits digits → digits_value_after 10 n (drop i digits) ≡ digits_value 10 digits → n < 2 ^ 64 → number_of digits ≡ Some n
number_of-all digits i n past same value small =
    let none : drop i digits ≡ [] = drop_of_length-le digits past in
    let are_digits : all_ascii_digits digits ≡ true = sym (rw none at same) in
    let is : digits_value 10 digits ≡ n = sym (rw none at value) in
    let test : nat_lt (digits_value 10 digits) (2 ^ 64) ≡ true = lt-ltb (digits_value 10 digits) (2 ^ 64) (omega (arith, is, small)) in
    let fits : (all_ascii_digits digits && nat_lt (digits_value 10 digits) (2 ^ 64)) ≡ true = rw (are_digits, test) refl in
    cond-true _ _ _ fits ∙ ap Some is

-- ---- numbers are read from their decimal digits alone

own : IsNumeralModel (λ digits. all_ascii_digits digits ≡ true) (digits_value 10)
own = numerals_by_value _ tells_all_ascii_digits

number_of-decimal : (word : List ℕ) (n : ℕ) → n < 2 ^ 64 → word ≡ decimal n → number_of word ≡ Some n
number_of-decimal word n small is =
    let digits : all_ascii_digits word ≡ true = rw is (digits_decimal own n small) in
    let value : digits_value 10 word ≡ n = rw is (digits_value-decimal own n small) in
    let test : nat_lt (digits_value 10 word) (2 ^ 64) ≡ true = lt-ltb (digits_value 10 word) (2 ^ 64) (omega (arith, value, small)) in
    let fits : (all_ascii_digits word && nat_lt (digits_value 10 word) (2 ^ 64)) ≡ true = rw (digits, test) refl in
    cond-true _ _ _ fits ∙ ap Some value

-- no zero stands before another digit
no_leading_zero : (first next : ℕ) (others : List ℕ) (n : ℕ) → n < 2 ^ 64 → first ∷ next ∷ others ≡ decimal n → 48 < first
no_leading_zero first next others zero small is = absurd (omega (arith, ap length (is ∙ decimal_digit 0 (omega arith))))
no_leading_zero first next others (suc n) small is =
    let above = first_decimal (suc n) (omega arith) small in
    let same : first ≡ get_or (decimal (suc n)) 0 0 = ap (λ word. get_or word 0 0) is in
    omega (arith, above, same)

read_number-decimal : (word : List ℕ) (n : ℕ) → n < 2 ^ 64 → word ≡ decimal n → read_number word ≡ Some n
read_number-decimal [] n small is = absurd (omega (arith, decimal_nonempty n small, ap length is))
read_number-decimal (digit ∷ []) n small is = number_of-decimal (digit ∷ []) n small is
read_number-decimal (digit ∷ next ∷ others) n small is =
    let above = no_leading_zero digit next others n small is in
    let other : (digit == 48) ≡ false = grind (arith, nat_tests) in
    cond-false _ _ _ other ∙ number_of-decimal (digit ∷ next ∷ others) n small is

-- where a test chose a value, it was true
chosen : (b : Bool) (value n : ℕ) → (if b then Some value else None) ≡ Some n → (b ≡ true) × (value ≡ n)
chosen true value n e = (refl, cc)
chosen false value n e = absurd (none_some e)

decimal-number_of : (word : List ℕ) (n : ℕ) → 0 < length word → (get_or word 0 0 ≡ 48 → length word ≡ 1) → number_of word ≡ Some n → word ≡ decimal n
decimal-number_of word n some lead read =
    let tests = chosen _ _ _ read in
    let digits : all_ascii_digits word ≡ true = (both_true _ _ tests.0).0 in
    let small = ltb-true (digits_value 10 word) (2 ^ 64) (both_true _ _ tests.0).1 in
    sym (decimal-digits_value own word digits some lead small) ∙ ap decimal tests.1

longer : (digit next : ℕ) (others : List ℕ) (n : ℕ) (zero_first : Bool) → (digit == 48) ≡ zero_first → read_number (digit ∷ next ∷ others) ≡ Some n → digit ∷ next ∷ others ≡ decimal n
longer digit next others n true is read = absurd (none_some (sym (cond-true _ _ _ is) ∙ read))
longer digit next others n false is read =
    decimal-number_of (digit ∷ next ∷ others) n (omega arith) (λ e. absurd (omega (arith, e, eqb-false digit 48 is))) (sym (cond-false _ _ _ is) ∙ read)

decimal-read_number : (word : List ℕ) (n : ℕ) → read_number word ≡ Some n → word ≡ decimal n
decimal-read_number [] n read = absurd (none_some read)
decimal-read_number (digit ∷ []) n read = decimal-number_of (digit ∷ []) n (omega arith) (λ _. refl) read
decimal-read_number (digit ∷ next ∷ others) n read = longer digit next others n (digit == 48) refl read

pub read_number-decimals : ReadsDecimals
read_number-decimals = (λ n small. read_number-decimal (decimal n) n small refl, decimal-read_number)
