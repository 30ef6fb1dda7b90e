-- The word that is printed for a byte string is the shortest.
use Rattle.std.proofs.Common.{◌≡◌, ◌≢◌, ℕ, ◌+◌, ◌-◌, ◌*◌, ◌/◌, ◌%◌, ◌<◌, ◌≤◌, ◌==◌, ◌&&◌, ◌||◌, Bool, true, false, List, [], ◌∷◌, ◌++◌, length, Option, Some, None, nat_le, refl, sym, subst, ap, ◌∙◌, arith}
use Rattle.std.proofs.lemmas.Bool.{cond-true, cond-false, eqb-true}
use Rattle.std.proofs.lemmas.Bool.Decides.{nat_tests}
use Rattle.std.proofs.lemmas.Option.{cond_some}
use Rattle.std.proofs.lemmas.Slice.Eq.{bytes_eq-Decides}
use Rattle.std.specs.List.{flat_map}
use Rattle.std.specs.Str.{bytes_eq}
use Rattle.sled_nodes.proofs.Basics.{none_some, some_is, false_true, both_true}
use Rattle.line_words.specs.Words.{is_plain, hex_digit, hex_value, escape, spelled, printed, plain_byte, byte_of, and_then, bytes_of, read_word, PrintsShortest}
use Rattle.line_words.proofs.Spelling.{bytes_of-cons, bytes_of-escape, bytes_of-nil, bytes_of-cut, bytes_of-cut_after}

-- the bytes in turn take no more than the word, and are the word if they take as much
abbrev Fits : List ℕ → List ℕ → Type 0
Fits word bytes = (length (flat_map spelled bytes) ≤ length word) × (length (flat_map spelled bytes) ≡ length word → flat_map spelled bytes ≡ word)

-- a byte and others make a byte string only where there are both
both_of : (b : Option ℕ) (others : Option (List ℕ)) (bytes : List ℕ) → and_then b others ≡ Some bytes → (x : ℕ) × (xs : List ℕ) × (b ≡ Some x) × (others ≡ Some xs) × (bytes ≡ x ∷ xs)
both_of None others bytes e = absurd (none_some e)
both_of (Some x) None bytes e = absurd (none_some e)
both_of (Some x) (Some xs) bytes e = (x, xs, refl, refl, (cc))

-- a byte that stands for itself
fits_plain : (b : ℕ) (rest bytes : List ℕ) → ((xs : List ℕ) → bytes_of rest ≡ Some xs → Fits rest xs) → and_then (plain_byte b) (bytes_of rest) ≡ Some bytes → Fits (b ∷ rest) bytes
fits_plain b rest bytes later e =
    let parts = both_of (plain_byte b) (bytes_of rest) bytes e in
    let plain = cond_some (is_plain b) b parts.0 parts.2 in
    let itself : spelled b ≡ b ∷ [] = cond-true _ _ _ plain.0 in
    let same : flat_map spelled bytes ≡ b ∷ flat_map spelled parts.1 = ap (flat_map spelled) parts.4 ∙ (ap (λ x. spelled x ++ flat_map spelled parts.1) (sym plain.1) ∙ ap (λ w. w ++ flat_map spelled parts.1) itself) in
    let fits = later parts.1 parts.3 in
    (omega (arith, ap length same, fits.0), λ as_long. same ∙ ap (λ w. b ∷ w) (fits.1 (omega (arith, ap length same, as_long))))

-- ---- an escape

-- the tests of a digit
hex_by : (c h : ℕ) (digit letter : Bool) → (nat_le 48 c && nat_le c 57) ≡ digit → (nat_le 97 c && nat_le c 102) ≡ letter → hex_value c ≡ Some h → (h < 16) × (hex_digit h ≡ c)
hex_by c h true letter d l e =
    let is : c - 48 ≡ h = some_is (sym (cond-true _ _ _ d) ∙ e) in
    let low = both_true (nat_le 48 c) (nat_le c 57) d in
    (grind (arith, nat_tests), grind (arith, nat_tests))
hex_by c h false true d l e =
    let is : c - 87 ≡ h = some_is (sym (cond-false _ _ _ d ∙ cond-true _ _ _ l) ∙ e) in
    let low = both_true (nat_le 97 c) (nat_le c 102) l in
    (grind (arith, nat_tests), grind (arith, nat_tests))
hex_by c h false false d l e = absurd (none_some (sym (cond-false _ _ _ d ∙ cond-false _ _ _ l) ∙ e))

hex_digit-hex_value : (c h : ℕ) → hex_value c ≡ Some h → (h < 16) × (hex_digit h ≡ c)
hex_digit-hex_value c h e = hex_by c h _ _ refl refl e

-- the digits of a byte that two digits spell
digits_by : (c d x : ℕ) (high low : Option ℕ) → hex_value c ≡ high → hex_value d ≡ low → byte_of high low ≡ Some x → (hex_digit (x / 16) ≡ c) × (hex_digit (x % 16) ≡ d)
digits_by c d x None low g k e = absurd (none_some e)
digits_by c d x (Some h) None g k e = absurd (none_some e)
digits_by c d x (Some h) (Some l) g k e =
    let is : h * 16 + l ≡ x = some_is e in
    let first = hex_digit-hex_value c h g in
    let second = hex_digit-hex_value d l k in
    let high : x / 16 ≡ h = omega (arith, is, first.0, second.0) in
    let low : x % 16 ≡ l = omega (arith, is, first.0, second.0) in
    (ap hex_digit high ∙ first.1, ap hex_digit low ∙ second.1)

fits_by : (c d x : ℕ) (rest xs bytes : List ℕ) (plain : Bool) → is_plain x ≡ plain → Fits rest xs → byte_of (hex_value c) (hex_value d) ≡ Some x → bytes ≡ x ∷ xs → Fits (37 ∷ c ∷ d ∷ rest) bytes
fits_by c d x rest xs bytes true plain fits e is =
    let itself : spelled x ≡ x ∷ [] = cond-true _ _ _ plain in
    let same : flat_map spelled bytes ≡ x ∷ flat_map spelled xs = ap (flat_map spelled) is ∙ ap (λ w. w ++ flat_map spelled xs) itself in
    (omega (arith, ap length same, fits.0), λ as_long. absurd (omega (arith, ap length same, as_long, fits.0)))
fits_by c d x rest xs bytes false plain fits e is =
    let escaped : spelled x ≡ escape x = cond-false _ _ _ plain in
    let digits = digits_by c d x (hex_value c) (hex_value d) refl refl e in
    let spells : escape x ≡ 37 ∷ c ∷ d ∷ [] = ap (λ h. 37 ∷ h ∷ hex_digit (x % 16) ∷ []) digits.0 ∙ ap (λ l. 37 ∷ c ∷ l ∷ []) digits.1 in
    let same : flat_map spelled bytes ≡ 37 ∷ c ∷ d ∷ flat_map spelled xs = ap (flat_map spelled) is ∙ ap (λ w. w ++ flat_map spelled xs) (escaped ∙ spells) in
    (omega (arith, ap length same, fits.0), λ as_long. same ∙ ap (λ w. 37 ∷ c ∷ d ∷ w) (fits.1 (omega (arith, ap length same, as_long))))

fits_escape : (c d : ℕ) (rest bytes : List ℕ) → ((xs : List ℕ) → bytes_of rest ≡ Some xs → Fits rest xs) → and_then (byte_of (hex_value c) (hex_value d)) (bytes_of rest) ≡ Some bytes → Fits (37 ∷ c ∷ d ∷ rest) bytes
fits_escape c d rest bytes later e =
    let parts = both_of (byte_of (hex_value c) (hex_value d)) (bytes_of rest) bytes e in
    fits_by c d parts.0 rest parts.1 bytes (is_plain parts.0) refl (later parts.1 parts.3) parts.2 parts.4

-- ---- every word

fits_cons : (b : ℕ) (rest bytes : List ℕ) (percent : Bool) → (b == 37) ≡ percent → (percent ≡ true → bytes_of (b ∷ rest) ≡ None) → ((xs : List ℕ) → bytes_of rest ≡ Some xs → Fits rest xs) → bytes_of (b ∷ rest) ≡ Some bytes → Fits (b ∷ rest) bytes
fits_cons b rest bytes true is cut later e = absurd (none_some (sym (cut refl) ∙ e))
fits_cons b rest bytes false is cut later e = fits_plain b rest bytes later (sym (bytes_of-cons b rest is) ∙ e)

fits_long : (b c d : ℕ) (rest bytes : List ℕ) (percent : Bool) → (b == 37) ≡ percent → ((xs : List ℕ) → bytes_of rest ≡ Some xs → Fits rest xs) → ((xs : List ℕ) → bytes_of (c ∷ d ∷ rest) ≡ Some xs → Fits (c ∷ d ∷ rest) xs) → bytes_of (b ∷ c ∷ d ∷ rest) ≡ Some bytes → Fits (b ∷ c ∷ d ∷ rest) bytes
fits_long b c d rest bytes true is later next e =
    let sign : b ≡ 37 = eqb-true b 37 is in
    let read : bytes_of (37 ∷ c ∷ d ∷ rest) ≡ Some bytes = ap (λ x. bytes_of (x ∷ c ∷ d ∷ rest)) (sym sign) ∙ e in
    subst (λ x. Fits (x ∷ c ∷ d ∷ rest) bytes) (sym sign) (fits_escape c d rest bytes later (sym (bytes_of-escape c d rest) ∙ read))
fits_long b c d rest bytes false is later next e = fits_plain b (c ∷ d ∷ rest) bytes next (sym (bytes_of-cons b (c ∷ d ∷ rest) is) ∙ e)

fits_word : (word bytes : List ℕ) → bytes_of word ≡ Some bytes → Fits word bytes
fits_word [] bytes e =
    let none : bytes ≡ [] = some_is (sym e ∙ bytes_of-nil) in
    let same : flat_map spelled bytes ≡ [] = ap (flat_map spelled) none in
    (omega (arith, ap length same), λ _. same)
fits_word (b ∷ []) bytes e = fits_cons b [] bytes (b == 37) refl (λ is. ap (λ x. bytes_of (x ∷ [])) (eqb-true b 37 is) ∙ bytes_of-cut) (fits_word []) e
fits_word (b ∷ c ∷ []) bytes e = fits_cons b (c ∷ []) bytes (b == 37) refl (λ is. ap (λ x. bytes_of (x ∷ c ∷ [])) (eqb-true b 37 is) ∙ bytes_of-cut_after c) (fits_word (c ∷ [])) e
fits_word (b ∷ c ∷ d ∷ rest) bytes e = fits_long b c d rest bytes (b == 37) refl (fits_word rest) (fits_word (c ∷ d ∷ rest)) e

-- ---- the two words that are not spelled byte by byte

cons_not_nil : {X : Type 0} {x : X} {xs : List X} → x ∷ xs ≡ [] → ⊥
cons_not_nil e = cc

one_byte : (x b : ℕ) (xs : List ℕ) → x ∷ [] ≡ b ∷ xs → (xs ≡ []) × (b ≡ x)
one_byte x b xs e = ((cc), (cc))

not_nil_by : (b : ℕ) (rest : List ℕ) (percent : Bool) → (b == 37) ≡ percent → (percent ≡ true → bytes_of (b ∷ rest) ≡ None) → bytes_of (b ∷ rest) ≡ Some [] → ⊥
not_nil_by b rest true is cut e = none_some (sym (cut refl) ∙ e)
not_nil_by b rest false is cut e = let parts = both_of (plain_byte b) (bytes_of rest) [] (sym (bytes_of-cons b rest is) ∙ e) in cons_not_nil (sym parts.4)

not_nil_long : (b c d : ℕ) (rest : List ℕ) (percent : Bool) → (b == 37) ≡ percent → bytes_of (b ∷ c ∷ d ∷ rest) ≡ Some [] → ⊥
not_nil_long b c d rest true is e =
    let read : bytes_of (37 ∷ c ∷ d ∷ rest) ≡ Some [] = ap (λ x. bytes_of (x ∷ c ∷ d ∷ rest)) (sym (eqb-true b 37 is)) ∙ e in
    let parts = both_of (byte_of (hex_value c) (hex_value d)) (bytes_of rest) [] (sym (bytes_of-escape c d rest) ∙ read) in
    cons_not_nil (sym parts.4)
not_nil_long b c d rest false is e = not_nil_by b (c ∷ d ∷ rest) false is (λ no_sign. absurd (false_true no_sign)) e

-- bytes by bytes, only nothing spells nothing
spells_nil : (word : List ℕ) → bytes_of word ≡ Some [] → word ≡ []
spells_nil [] e = refl
spells_nil (b ∷ []) e = absurd (not_nil_by b [] (b == 37) refl (λ is. ap (λ x. bytes_of (x ∷ [])) (eqb-true b 37 is) ∙ bytes_of-cut) e)
spells_nil (b ∷ c ∷ []) e = absurd (not_nil_by b (c ∷ []) (b == 37) refl (λ is. ap (λ x. bytes_of (x ∷ c ∷ [])) (eqb-true b 37 is) ∙ bytes_of-cut_after c) e)
spells_nil (b ∷ c ∷ d ∷ rest) e = absurd (not_nil_long b c d rest (b == 37) refl e)

-- a dash takes its escape, where it is not itself
abbrev Dash : List ℕ → Type 0
Dash word = (3 ≤ length word) × (3 ≡ length word → escape 45 ≡ word)

-- a byte that stands for itself, before something, is no lone dash
no_dash : (b : ℕ) (rest : List ℕ) (percent : Bool) → (b == 37) ≡ percent → 0 < length rest → (percent ≡ true → bytes_of (b ∷ rest) ≡ None) → bytes_of (b ∷ rest) ≡ Some (45 ∷ []) → ⊥
no_dash b rest true is some cut e = none_some (sym (cut refl) ∙ e)
no_dash b rest false is some cut e =
    let parts = both_of (plain_byte b) (bytes_of rest) (45 ∷ []) (sym (bytes_of-cons b rest is) ∙ e) in
    let none : rest ≡ [] = spells_nil rest (parts.3 ∙ ap Some (one_byte 45 parts.0 parts.1 parts.4).0) in
    absurd (omega (arith, ap length none))

dash_long : (b c d : ℕ) (rest : List ℕ) (percent : Bool) → (b == 37) ≡ percent → bytes_of (b ∷ c ∷ d ∷ rest) ≡ Some (45 ∷ []) → Dash (b ∷ c ∷ d ∷ rest)
dash_long b c d rest true is e =
    let sign : b ≡ 37 = eqb-true b 37 is in
    let read : bytes_of (37 ∷ c ∷ d ∷ rest) ≡ Some (45 ∷ []) = ap (λ x. bytes_of (x ∷ c ∷ d ∷ rest)) (sym sign) ∙ e in
    let parts = both_of (byte_of (hex_value c) (hex_value d)) (bytes_of rest) (45 ∷ []) (sym (bytes_of-escape c d rest) ∙ read) in
    let one = one_byte 45 parts.0 parts.1 parts.4 in
    let none : rest ≡ [] = spells_nil rest (parts.3 ∙ ap Some one.0) in
    let digits = digits_by c d 45 (hex_value c) (hex_value d) refl refl (parts.2 ∙ ap Some one.1) in
    let spells : escape 45 ≡ 37 ∷ c ∷ d ∷ [] = ap (λ h. 37 ∷ h ∷ hex_digit (45 % 16) ∷ []) digits.0 ∙ ap (λ l. 37 ∷ c ∷ l ∷ []) digits.1 in
    (omega arith, λ _. spells ∙ (ap (λ x. x ∷ c ∷ d ∷ []) (sym sign) ∙ ap (λ w. b ∷ c ∷ d ∷ w) (sym none)))
dash_long b c d rest false is e = absurd (no_dash b (c ∷ d ∷ rest) false is (omega arith) (λ no_sign. absurd (false_true no_sign)) e)

dash_word : (word : List ℕ) → word ≢ 45 ∷ [] → bytes_of word ≡ Some (45 ∷ []) → Dash word
dash_word [] other e = absurd (cons_not_nil (sym (some_is (sym bytes_of-nil ∙ e))))
dash_word (b ∷ []) other e = absurd (other (sym ((fits_word (b ∷ []) (45 ∷ []) e).1 refl)))
dash_word (b ∷ c ∷ []) other e = absurd (no_dash b (c ∷ []) (b == 37) refl (omega arith) (λ is. ap (λ x. bytes_of (x ∷ c ∷ [])) (eqb-true b 37 is) ∙ bytes_of-cut_after c) e)
dash_word (b ∷ c ∷ d ∷ rest) other e = dash_long b c d rest (b == 37) refl e

-- ---- all words

abbrev Shortest : List ℕ → List ℕ → Type 0
Shortest word bytes = (length (printed bytes) ≤ length word) × (length (printed bytes) ≡ length word → printed bytes ≡ word)

spelled_by : (word bytes : List ℕ) (nothing dash : Bool) → bytes_eq bytes [] ≡ nothing → bytes_eq bytes (45 ∷ []) ≡ dash → word ≢ [] → word ≢ 45 ∷ [] → bytes_of word ≡ Some bytes → Shortest word bytes
spelled_by word bytes true dash n d some other e = absurd (some (spells_nil word (e ∙ ap Some ((bytes_eq-Decides bytes []).0 n))))
spelled_by word bytes false true n d some other e =
    let is : printed bytes ≡ escape 45 = cond-false _ _ _ n ∙ cond-true _ _ _ d in
    let fits = dash_word word other (e ∙ ap Some ((bytes_eq-Decides bytes (45 ∷ [])).0 d)) in
    (omega (arith, ap length is, fits.0), λ as_long. is ∙ fits.1 (omega (arith, ap length is, as_long)))
spelled_by word bytes false false n d some other e =
    let is : printed bytes ≡ flat_map spelled bytes = cond-false _ _ _ n ∙ cond-false _ _ _ d in
    let fits = fits_word word bytes e in
    (omega (arith, ap length is, fits.0), λ as_long. is ∙ fits.1 (omega (arith, ap length is, as_long)))

not_from : (b c : Bool) → (b || c) ≡ false → (b ≡ false) × (c ≡ false)
not_from true c e = absurd (false_true (sym e))
not_from false c e = (refl, e)

read_by : (word bytes : List ℕ) (percent neither : Bool) → bytes_eq word (37 ∷ []) ≡ percent → (bytes_eq word (45 ∷ []) || bytes_eq word []) ≡ neither → read_word word ≡ Some bytes → Shortest word bytes
read_by word bytes true neither p n e =
    let is : word ≡ 37 ∷ [] = (bytes_eq-Decides word (37 ∷ [])).0 p in
    let nothing : bytes ≡ [] = some_is (sym e ∙ cond-true _ _ _ p) in
    let same : printed bytes ≡ word = ap printed nothing ∙ sym is in
    (omega (arith, ap length same), λ _. same)
read_by word bytes false true p n e = absurd (none_some (sym (cond-false _ _ _ p ∙ cond-true _ _ _ n) ∙ e))
read_by word bytes false false p n e =
    let tests = not_from (bytes_eq word (45 ∷ [])) (bytes_eq word []) n in
    spelled_by word bytes (bytes_eq bytes []) (bytes_eq bytes (45 ∷ [])) refl refl
    (λ is. false_true (sym tests.1 ∙ (bytes_eq-Decides word []).1 is))
    (λ is. false_true (sym tests.0 ∙ (bytes_eq-Decides word (45 ∷ [])).1 is))
    (sym (cond-false _ _ _ p ∙ cond-false _ _ _ n) ∙ e)

pub shortest : PrintsShortest
shortest word bytes e = read_by word bytes (bytes_eq word (37 ∷ [])) (bytes_eq word (45 ∷ []) || bytes_eq word []) refl refl e
