-- Laws of the words that spell byte strings.
use Rattle.std.proofs.Common.{◌≡◌, ℕ, ◌+◌, ◌*◌, ◌/◌, ◌%◌, ◌<◌, ◌==◌, Bool, true, false, List, [], ◌∷◌, ◌++◌, ◌≢◌, length, take, drop, Option, Some, None, refl, ap, ◌∙◌, sym, arith, option_map, append_assoc, append-nil, take-append-drop, length-drop}
use Rattle.std.proofs.lemmas.List.{take_all}
use Rattle.std.proofs.lemmas.Grind.{flat_map-append}
use Rattle.std.proofs.lemmas.Bool.{cond-true, cond-false, false_from_ne_true}
use Rattle.std.proofs.lemmas.Bool.Decides.{nat_tests}
use Rattle.std.proofs.lemmas.Slice.Eq.{bytes_eq-Decides}
use Rattle.std.specs.List.{flat_map, list_all}
use Rattle.std.specs.Str.{bytes_eq}
use Rattle.sled_nodes.proofs.Basics.{some_none, some_is, false_true, both_true}
use Rattle.line_words.specs.Words.{is_plain, hex_digit, hex_value, escape, spelled, printed, plain_byte, byte_of, and_then, bytes_of, read_word, AreBytes, ReadsPrinted, ReadsValues}

-- a byte that is no `%` stands for itself, or for nothing
pub bytes_of-cons : (b : ℕ) (rest : List ℕ) → (b == 37) ≡ false → bytes_of (b ∷ rest) ≡ and_then (plain_byte b) (bytes_of rest)
unfolding bytes_of
bytes_of-cons b [] odd = refl
bytes_of-cons b (c ∷ []) odd = refl
bytes_of-cons b (c ∷ d ∷ rest) odd = cond-false _ _ _ odd

pub bytes_of-escape : (c d : ℕ) (rest : List ℕ) → bytes_of (37 ∷ c ∷ d ∷ rest) ≡ and_then (byte_of (hex_value c) (hex_value d)) (bytes_of rest)
unfolding bytes_of
bytes_of-escape c d rest = refl

pub bytes_of-cut : bytes_of (37 ∷ []) ≡ None
unfolding bytes_of
bytes_of-cut = refl

pub bytes_of-cut_after : (c : ℕ) → bytes_of (37 ∷ c ∷ []) ≡ None
unfolding bytes_of
bytes_of-cut_after c = refl

pub bytes_of-nil : bytes_of [] ≡ Some []
unfolding bytes_of
bytes_of-nil = refl

-- the same laws, as they are met
pub begins_plain : (word rest : List ℕ) (b : ℕ) → word ≡ b ∷ rest → b ≢ 37 → is_plain b ≡ true → bytes_of word ≡ and_then (Some b) (bytes_of rest)
begins_plain word rest b e other plain =
    let other_byte : (b == 37) ≡ false = grind (arith, nat_tests) in
    let itself : plain_byte b ≡ Some b = cond-true _ _ _ plain in
    rw e (bytes_of-cons b rest other_byte ∙ ap (λ x. and_then x (bytes_of rest)) itself)

pub begins_none : (word rest : List ℕ) (b : ℕ) → word ≡ b ∷ rest → b ≢ 37 → is_plain b ≡ false → bytes_of word ≡ None
begins_none word rest b e other odd =
    let other_byte : (b == 37) ≡ false = grind (arith, nat_tests) in
    let nothing : plain_byte b ≡ None = cond-false _ _ _ odd in
    rw e (bytes_of-cons b rest other_byte ∙ ap (λ x. and_then x (bytes_of rest)) nothing)

pub begins_cut : (word rest : List ℕ) (b : ℕ) → word ≡ b ∷ rest → b ≡ 37 → length rest ≡ 0 → bytes_of word ≡ None
begins_cut word [] b e percent none = rw (e, percent) bytes_of-cut
begins_cut word (c ∷ rest) b e percent none = absurd (omega arith)

pub begins_cut_after : (word tail rest : List ℕ) (b c : ℕ) → word ≡ b ∷ tail → b ≡ 37 → tail ≡ c ∷ rest → length rest ≡ 0 → bytes_of word ≡ None
begins_cut_after word tail [] b c e percent f none = rw (e, percent, f) (bytes_of-cut_after c)
begins_cut_after word tail (d ∷ rest) b c e percent f none = absurd (omega arith)

pub begins_escape : (word tail tail' rest : List ℕ) (b c d : ℕ) (byte : Option ℕ) → word ≡ b ∷ tail → b ≡ 37 → tail ≡ c ∷ tail' → tail' ≡ d ∷ rest → byte ≡ byte_of (hex_value c) (hex_value d) → bytes_of word ≡ and_then byte (bytes_of rest)
begins_escape word tail tail' rest b c d byte e percent f g h = rw (e, percent, f, g, h) (bytes_of-escape c d rest)

-- bytes in front of what a word spells
pub and_then_front : (front : List ℕ) (b : ℕ) (spells : Option (List ℕ)) → option_map (λ others. front ++ others) (and_then (Some b) spells) ≡ option_map (λ others. (front ++ b ∷ []) ++ others) spells
and_then_front front b None = refl
and_then_front front b (Some others) = ap Some (sym (append_assoc front (b ∷ []) others))

-- at the end of a word the bytes so far are all
pub bytes_of-end : (word rest bytes : List ℕ) → length rest ≡ 0 → option_map (λ others. bytes ++ others) (bytes_of rest) ≡ bytes_of word → Some bytes ≡ bytes_of word
bytes_of-end word [] bytes none same = ap Some (sym (append-nil bytes)) ∙ rw bytes_of-nil at same
bytes_of-end word (b ∷ rest) bytes none same = absurd (omega arith)

-- ---- bytes that all stand for themselves

plain_is_other : (b : ℕ) → is_plain b ≡ true → (b == 37) ≡ false
plain_is_other b plain = grind (arith, nat_tests)

-- .. are spelled by themselves
spelled-plain : (bytes : List ℕ) → list_all is_plain bytes ≡ true → flat_map spelled bytes ≡ bytes
spelled-plain [] plain = refl
spelled-plain (b ∷ bytes) plain =
    let both = both_true (is_plain b) (list_all is_plain bytes) plain in
    let itself : spelled b ≡ b ∷ [] = cond-true _ _ _ both.0 in
    ap (λ word. word ++ flat_map spelled bytes) itself ∙ ap (λ rest. b ∷ rest) (spelled-plain bytes both.1)

-- .. and spell themselves
bytes_of-plain : (word : List ℕ) → list_all is_plain word ≡ true → bytes_of word ≡ Some word
bytes_of-plain [] plain = bytes_of-nil
bytes_of-plain (b ∷ rest) plain =
    let both = both_true (is_plain b) (list_all is_plain rest) plain in
    let itself : plain_byte b ≡ Some b = cond-true _ _ _ both.0 in
    bytes_of-cons b rest (plain_is_other b both.0) ∙ (ap (λ x. and_then x (bytes_of rest)) itself ∙ ap (λ x. and_then (Some b) x) (bytes_of-plain rest both.1))

-- the same, where so many bytes are all
pub bytes_of-whole : (word : List ℕ) (n : ℕ) → list_all is_plain (take n word) ≡ true → n ≡ length word → bytes_of word ≡ Some word
bytes_of-whole word n plain all = bytes_of-plain word (ap (list_all is_plain) (sym (take_all n word (omega (arith, all)))) ∙ plain)

-- some that do, one more byte, and the others
spelled-run : (rest : List ℕ) (n : ℕ) (b : ℕ) (others : List ℕ) → list_all is_plain (take n rest) ≡ true → drop n rest ≡ b ∷ others → (take n rest ++ spelled b) ++ flat_map spelled others ≡ flat_map spelled rest
spelled-run rest n b others plain next =
    let whole : take n rest ++ (b ∷ others) ≡ rest = rw (← next) (take-append-drop n rest) in
    append_assoc (take n rest) (spelled b) (flat_map spelled others)
    ∙ (ap (λ front. front ++ flat_map spelled (b ∷ others)) (sym (spelled-plain (take n rest) plain))
    ∙ (sym (flat_map-append spelled (take n rest) (b ∷ others)) ∙ ap (flat_map spelled) whole))

-- .. or the last of them
spelled-last : (rest : List ℕ) (n : ℕ) → list_all is_plain (take n rest) ≡ true → length (drop n rest) ≡ 0 → take n rest ≡ flat_map spelled rest
spelled-last rest n plain none =
    let all : take n rest ≡ rest = take_all n rest (omega (arith, length-drop n rest)) in
    sym (ap (flat_map spelled) (sym all) ∙ spelled-plain (take n rest) plain)

-- bytes are added run by run
pub pushed-run : (out more last rest others run tail : List ℕ) (n b : ℕ) {whole : List ℕ} → list_all is_plain (take n rest) ≡ true → run ≡ take n rest → tail ≡ drop n rest → tail ≡ b ∷ others
    → more ≡ out ++ run → last ≡ more ++ spelled b → out ++ flat_map spelled rest ≡ whole → last ++ flat_map spelled others ≡ whole
pushed-run out more last rest others run tail n b plain front back next one two sofar =
    let line : last ≡ out ++ (take n rest ++ spelled b) = two ∙ (ap (λ m. m ++ spelled b) (one ∙ ap (λ r. out ++ r) front) ∙ append_assoc out (take n rest) (spelled b)) in
    ap (λ l. l ++ flat_map spelled others) line
    ∙ (append_assoc out (take n rest ++ spelled b) (flat_map spelled others)
    ∙ (ap (λ t. out ++ t) (spelled-run rest n b others plain (sym back ∙ next)) ∙ sofar))

pub pushed-last : (out more rest run tail : List ℕ) (n : ℕ) {whole : List ℕ} → list_all is_plain (take n rest) ≡ true → run ≡ take n rest → tail ≡ drop n rest → length tail ≡ 0
    → more ≡ out ++ run → out ++ flat_map spelled rest ≡ whole → more ≡ whole
pushed-last out more rest run tail n plain front back none one sofar =
    one ∙ (ap (λ r. out ++ r) (front ∙ spelled-last rest n plain (ap length (sym back) ∙ none)) ∙ sofar)

-- ---- what is printed is read

differs : (xs ys : List ℕ) → (xs ≡ ys → ⊥) → bytes_eq xs ys ≡ false
differs xs ys never = false_from_ne_true (bytes_eq xs ys) (λ e. never ((bytes_eq-Decides xs ys).0 e))

hex_value-hex_digit : (n : ℕ) → n < 16 → hex_value (hex_digit n) ≡ Some n
hex_value-hex_digit n small = grind (arith, nat_tests)

byte_of-escape : (b : ℕ) → b < 256 → byte_of (hex_value (hex_digit (b / 16))) (hex_value (hex_digit (b % 16))) ≡ Some b
byte_of-escape b small =
    let high = hex_value-hex_digit (b / 16) (omega arith) in
    let low = hex_value-hex_digit (b % 16) (omega arith) in
    let same : b / 16 * 16 + b % 16 ≡ b = omega arith in
    rw (high, low, same) refl

bytes_of-spelled_by : (b : ℕ) (rest : List ℕ) (plain : Bool) → is_plain b ≡ plain → b < 256 → bytes_of (spelled b ++ rest) ≡ and_then (Some b) (bytes_of rest)
bytes_of-spelled_by b rest true plain small =
    let itself : spelled b ≡ b ∷ [] = cond-true _ _ _ plain in
    let byte : plain_byte b ≡ Some b = cond-true _ _ _ plain in
    rw itself (bytes_of-cons b rest (plain_is_other b plain) ∙ ap (λ x. and_then x (bytes_of rest)) byte)
bytes_of-spelled_by b rest false plain small =
    let escaped : spelled b ≡ escape b = cond-false _ _ _ plain in
    rw escaped (bytes_of-escape (hex_digit (b / 16)) (hex_digit (b % 16)) rest ∙ ap (λ x. and_then x (bytes_of rest)) (byte_of-escape b small))

bytes_of-spelled : (b : ℕ) (rest : List ℕ) → b < 256 → bytes_of (spelled b ++ rest) ≡ and_then (Some b) (bytes_of rest)
bytes_of-spelled b rest small = bytes_of-spelled_by b rest (is_plain b) refl small

bytes_of-spelling : (bytes : List ℕ) → AreBytes bytes → bytes_of (flat_map spelled bytes) ≡ Some bytes
bytes_of-spelling [] small = bytes_of-nil
bytes_of-spelling (b ∷ bytes) small =
    bytes_of-spelled b (flat_map spelled bytes) small.0 ∙ ap (λ x. and_then (Some b) x) (bytes_of-spelling bytes small.1)

-- a word that spells bytes one by one is read so, but for the two words that mean something else
read_word-bytes_of : (word bytes : List ℕ) → bytes_of word ≡ Some bytes → bytes ≢ [] → bytes ≢ 45 ∷ [] → read_word word ≡ Some bytes
read_word-bytes_of word bytes spells some other =
    let one_byte : bytes_of (45 ∷ []) ≡ Some (45 ∷ []) = bytes_of-cons 45 [] refl ∙ ap (λ x. and_then (plain_byte 45) x) bytes_of-nil in
    let not_percent : bytes_eq word (37 ∷ []) ≡ false = differs _ _ (λ e. absurd (some_none (sym spells ∙ ap bytes_of e ∙ bytes_of-cut))) in
    let not_dash : bytes_eq word (45 ∷ []) ≡ false = differs _ _ (λ e. other (some_is (sym spells ∙ ap bytes_of e ∙ one_byte))) in
    let not_empty : bytes_eq word [] ≡ false = differs _ _ (λ e. some (some_is (sym spells ∙ ap bytes_of e ∙ bytes_of-nil))) in
    rw (not_percent, not_dash, not_empty) spells

printed_by : (b : ℕ) (bytes : List ℕ) → AreBytes (b ∷ bytes) → (dash : Bool) → bytes_eq (b ∷ bytes) (45 ∷ []) ≡ dash → read_word (printed (b ∷ bytes)) ≡ Some (b ∷ bytes)
unfolding bytes_of
printed_by b bytes small true dash =
    let is : b ∷ bytes ≡ 45 ∷ [] = (bytes_eq-Decides (b ∷ bytes) (45 ∷ [])).0 dash in
    let dashed : read_word (printed (45 ∷ [])) ≡ Some (45 ∷ []) = refl in
    ap (λ word. read_word (printed word)) is ∙ dashed ∙ ap Some (sym is)
printed_by b bytes small false dash =
    let word : printed (b ∷ bytes) ≡ flat_map spelled (b ∷ bytes) = cond-false _ _ _ dash in
    rw word (read_word-bytes_of (flat_map spelled (b ∷ bytes)) (b ∷ bytes) (bytes_of-spelling (b ∷ bytes) small) (λ e. cc) (λ e. false_true (sym dash ∙ (bytes_eq-Decides (b ∷ bytes) (45 ∷ [])).1 e)))

pub read_word-printed : ReadsPrinted
read_word-printed [] small = refl
read_word-printed (b ∷ bytes) small = printed_by b bytes small (bytes_eq (b ∷ bytes) (45 ∷ [])) refl

-- no byte string is printed as the word that means none
pub read_value-word_of : ReadsValues
read_value-word_of None small = refl
read_value-word_of (Some bytes) small =
    let read : read_word (printed bytes) ≡ Some bytes = read_word-printed bytes small in
    let dash : read_word (45 ∷ []) ≡ None = refl in
    let other : bytes_eq (printed bytes) (45 ∷ []) ≡ false = differs (printed bytes) (45 ∷ []) (λ e. absurd (some_none (sym read ∙ ap read_word e ∙ dash))) in
    cond-false _ _ _ other ∙ ap (option_map (λ b. Some b)) read
