-- How a text is read line by line.
use Rattle.std.proofs.Common.{◌≡◌, ℕ, suc, ◌-◌, ◌<◌, ◌==◌, ◌&&◌, Bool, true, false, List, [], ◌∷◌, length, get_or, take, nat_lt, Option, Some, None, IfSome, IsSome, refl, sym, subst, ap, ◌∙◌, arith}
use Rattle.std.proofs.lemmas.Bool.{cond-true, cond-false, eqb-true, lt-ltb}
use Rattle.std.specs.Io.BufRead.{take_through, drop_through, ends_with_byte, strip_last, first_piece, DropsThrough}
use Rattle.std.specs.List.{slice_split, onto_first}
use Rattle.std.proofs.lemmas.List.Splits.{slice_split-cons_yes, slice_split-cons_no, length-slice_split}
use Rattle.std.specs.Str.{bytes_eq}
use Rattle.line_words.specs.declared.command.Command.{Command}
use Rattle.line_words.specs.Command.{command_of}
use Rattle.line_sessions.specs.Serve.{without_last, lines_of, crash_of}
use Rattle.line_sessions.specs.theory.Serve.{BeginsSo}
use Rattle.line_words.specs.declared.command.Command.TheVariants as command

nil_not_cons : {X : Type 0} {x : X} {xs : List X} → [] ≡ x ∷ xs → ⊥
nil_not_cons e = cc

-- a line ends by its last byte alone
ends-cons : (x y : ℕ) (ys : List ℕ) → ends_with_byte 10 (x ∷ y ∷ ys) ≡ ends_with_byte 10 (y ∷ ys)
ends-cons x y ys =
    let long : length (x ∷ y ∷ ys) - 1 ≡ suc (length ys) = omega arith in
    let short : length (y ∷ ys) - 1 ≡ length ys = omega arith in
    let some_long : nat_lt 0 (length (x ∷ y ∷ ys)) ≡ true = lt-ltb 0 (length (x ∷ y ∷ ys)) (omega arith) in
    let some_short : nat_lt 0 (length (y ∷ ys)) ≡ true = lt-ltb 0 (length (y ∷ ys)) (omega arith) in
    ap (λ m. nat_lt 0 (length (x ∷ y ∷ ys)) && (get_or (x ∷ y ∷ ys) m 0 == 10)) long
    ∙ (ap (λ b. b && (get_or (y ∷ ys) (length ys) 0 == 10)) (some_long ∙ sym some_short)
    ∙ sym (ap (λ m. nat_lt 0 (length (y ∷ ys)) && (get_or (y ∷ ys) m 0 == 10)) short))

strip_by : (x y : ℕ) (ys : List ℕ) (ends : Bool) → ends_with_byte 10 (y ∷ ys) ≡ ends → strip_last 10 (x ∷ y ∷ ys) ≡ x ∷ strip_last 10 (y ∷ ys)
strip_by x y ys true e =
    let long : length (x ∷ y ∷ ys) - 1 ≡ suc (length ys) = omega arith in
    let short : length (y ∷ ys) - 1 ≡ length ys = omega arith in
    cond-true _ _ _ (ends-cons x y ys ∙ e) ∙ (ap (λ m. take m (x ∷ y ∷ ys)) long ∙ (ap (λ m. x ∷ take m (y ∷ ys)) (sym short) ∙ ap (λ l. x ∷ l) (sym (cond-true _ _ _ e))))
strip_by x y ys false e = cond-false _ _ _ (ends-cons x y ys ∙ e) ∙ ap (λ l. x ∷ l) (sym (cond-false _ _ _ e))

strip_last-cons : (x y : ℕ) (ys : List ℕ) → strip_last 10 (x ∷ y ∷ ys) ≡ x ∷ strip_last 10 (y ∷ ys)
strip_last-cons x y ys = strip_by x y ys (ends_with_byte 10 (y ∷ ys)) refl

one_part : (x : ℕ) (p l : List ℕ) (ls : List (List ℕ)) (nothing : Bool) → bytes_eq p [] ≡ nothing → without_last (p ∷ []) ≡ l ∷ ls → without_last (onto_first x (p ∷ [])) ≡ (x ∷ l) ∷ ls
one_part x p l ls true is e = absurd (nil_not_cons (sym (cond-true _ _ _ is) ∙ e))
one_part x p l ls false is e = ap (onto_first x) (sym (cond-false _ _ _ is) ∙ e)

-- a byte in front of the first line
lines_onto : (x : ℕ) (parts : List (List ℕ)) (l : List ℕ) (ls : List (List ℕ)) → without_last parts ≡ l ∷ ls → without_last (onto_first x parts) ≡ (x ∷ l) ∷ ls
lines_onto x [] l ls e = absurd (nil_not_cons e)
lines_onto x (p ∷ []) l ls e = one_part x p l ls (bytes_eq p []) refl e
lines_onto x (p ∷ q ∷ parts) l ls e = ap (onto_first x) e

empty_first : (parts : List (List ℕ)) → 0 < length parts → without_last ([] ∷ parts) ≡ [] ∷ without_last parts
empty_first [] some = absurd (omega arith)
empty_first (p ∷ parts) some = refl

-- what a line has in front of its end
piece_onto : (x y : ℕ) (ys : List ℕ) (is : Bool) → (y == 10) ≡ is → strip_last 10 (x ∷ take_through 10 (y ∷ ys)) ≡ x ∷ strip_last 10 (take_through 10 (y ∷ ys))
piece_onto x y ys true is =
    let through : take_through 10 (y ∷ ys) ≡ y ∷ [] = cond-true _ _ _ is in
    rw through (strip_last-cons x y [])
piece_onto x y ys false is =
    let through : take_through 10 (y ∷ ys) ≡ y ∷ take_through 10 ys = cond-false _ _ _ is in
    rw through (strip_last-cons x y (take_through 10 ys))

next_end : (x : ℕ) (xs : List ℕ) → (x == 10) ≡ true → lines_of (x ∷ xs) ≡ first_piece 10 (x ∷ xs) ∷ lines_of (drop_through 10 (x ∷ xs))
next_end x xs is =
    let through : take_through 10 (x ∷ xs) ≡ x ∷ [] = cond-true _ _ _ is in
    let after : drop_through 10 (x ∷ xs) ≡ xs = cond-true _ _ _ is in
    let piece : strip_last 10 (x ∷ []) ≡ [] = ap (λ b. strip_last 10 (b ∷ [])) (eqb-true x 10 is) in
    ap without_last (slice_split-cons_yes (λ b. b == 10) x xs is)
    ∙ (empty_first (slice_split (λ b. b == 10) xs) (omega (arith, length-slice_split (λ b. b == 10) xs))
    ∙ (ap (λ l. l ∷ lines_of xs) (sym piece ∙ ap (strip_last 10) (sym through)) ∙ ap (λ t. first_piece 10 (x ∷ xs) ∷ lines_of t) (sym after)))

next_last : (x : ℕ) → (x == 10) ≡ false → lines_of (x ∷ []) ≡ first_piece 10 (x ∷ []) ∷ lines_of (drop_through 10 (x ∷ []))
next_last x is =
    let through : take_through 10 (x ∷ []) ≡ x ∷ [] = cond-false _ _ _ is in
    let after : drop_through 10 (x ∷ []) ≡ [] = cond-false _ _ _ is in
    let stays : strip_last 10 (x ∷ []) ≡ x ∷ [] = cond-false _ _ _ is in
    ap without_last (slice_split-cons_no (λ b. b == 10) x [] is)
    ∙ (ap (λ l. l ∷ []) (sym stays ∙ ap (strip_last 10) (sym through)) ∙ ap (λ t. first_piece 10 (x ∷ []) ∷ lines_of t) (sym after))

next_more : (x y : ℕ) (ys : List ℕ) → (x == 10) ≡ false → lines_of (y ∷ ys) ≡ first_piece 10 (y ∷ ys) ∷ lines_of (drop_through 10 (y ∷ ys)) → lines_of (x ∷ y ∷ ys) ≡ first_piece 10 (x ∷ y ∷ ys) ∷ lines_of (drop_through 10 (x ∷ y ∷ ys))
next_more x y ys is before =
    let through : take_through 10 (x ∷ y ∷ ys) ≡ x ∷ take_through 10 (y ∷ ys) = cond-false _ _ _ is in
    let after : drop_through 10 (x ∷ y ∷ ys) ≡ drop_through 10 (y ∷ ys) = cond-false _ _ _ is in
    ap without_last (slice_split-cons_no (λ b. b == 10) x (y ∷ ys) is)
    ∙ (lines_onto x (slice_split (λ b. b == 10) (y ∷ ys)) (first_piece 10 (y ∷ ys)) (lines_of (drop_through 10 (y ∷ ys))) before
    ∙ (ap (λ l. l ∷ lines_of (drop_through 10 (y ∷ ys))) (sym (piece_onto x y ys (y == 10) refl) ∙ ap (strip_last 10) (sym through))
    ∙ ap (λ t. first_piece 10 (x ∷ y ∷ ys) ∷ lines_of t) (sym after)))

next_by : (x : ℕ) (xs : List ℕ) (is : Bool) → (x == 10) ≡ is → ((y : ℕ) (ys : List ℕ) → xs ≡ y ∷ ys → lines_of (y ∷ ys) ≡ first_piece 10 (y ∷ ys) ∷ lines_of (drop_through 10 (y ∷ ys))) → lines_of (x ∷ xs) ≡ first_piece 10 (x ∷ xs) ∷ lines_of (drop_through 10 (x ∷ xs))
next_by x xs true is before = next_end x xs is
next_by x [] false is before = next_last x is
next_by x (y ∷ ys) false is before = next_more x y ys is (before y ys refl)

-- a text begins with its first line
pub lines_of-cons : (x : ℕ) (xs : List ℕ) → lines_of (x ∷ xs) ≡ first_piece 10 (x ∷ xs) ∷ lines_of (drop_through 10 (x ∷ xs))
lines_of-cons x [] = next_by x [] (x == 10) refl (λ y ys e. absurd (nil_not_cons e))
lines_of-cons x (y ∷ ys) = next_by x (y ∷ ys) (x == 10) refl (λ z zs e. subst (λ t. lines_of t ≡ first_piece 10 t ∷ lines_of (drop_through 10 t)) e (lines_of-cons y ys))

-- ---- a line that was read

begins_by : (left after : Option (List ℕ)) (line : List ℕ) (read : Option Command) → IfSome left (λ text. line ≡ take_through 10 text) → 0 < length line → DropsThrough left after 10 → command_of (strip_last 10 line) ≡ read → IfSome left (λ text. BeginsSo text read after)
begins_by None after line read is some rest reads = tt
begins_by (Some []) after line read is some rest reads = absurd (omega (arith, ap length is))
begins_by (Some (x ∷ xs)) after line read is some rest reads = record {
  line = first_piece 10 (x ∷ xs);
  rest = drop_through 10 (x ∷ xs);
  lines = lines_of-cons x xs;
  reads = ap (λ l. command_of (strip_last 10 l)) (sym is) ∙ reads;
  left = rest;
}

-- a line as it was copied, and its bytes as they were parsed
pub begins_copied : (left after : Option (List ℕ)) (line slice text : List ℕ) (read : Option Command) → IfSome left (λ t. line ≡ take_through 10 t) → 0 < length line
    → DropsThrough left after 10 → slice ≡ line → text ≡ strip_last 10 slice → command_of text ≡ read → IfSome left (λ t. BeginsSo t read after)
begins_copied left after line slice text read is some rest same ends reads =
    begins_by left after line read is some rest (ap (λ l. command_of (strip_last 10 l)) (sym same) ∙ (ap command_of (sym ends) ∙ reads))

pub is_crash : (c : Command) (keep : ℕ) → crash_of c ≡ Some keep → c ≡ command.Crash keep
is_crash (command.Crash k) keep e = cc
is_crash other keep e = cc

-- ---- over several lines

pub bad_kept : (a b c : Option (Option ℕ)) → IfSome a (λ bad. b ≡ Some bad) → IfSome b (λ bad. c ≡ Some bad) → IfSome a (λ bad. c ≡ Some bad)
bad_kept None b c first next = tt
bad_kept (Some bad) b c first next = subst (λ x. IfSome x (λ bad. c ≡ Some bad)) first next

pub bad_told : (a b : Option (Option ℕ)) (told : Option ℕ) → IfSome a (λ bad. b ≡ Some bad) → IfSome b (λ bad. bad ≡ told) → IfSome a (λ bad. bad ≡ told)
bad_told None b told first next = tt
bad_told (Some bad) b told first next = subst (λ x. IfSome x (λ bad. bad ≡ told)) first next

pub bad_same : (a : Option (Option ℕ)) → IfSome a (λ bad. a ≡ Some bad)
bad_same None = tt
bad_same (Some bad) = refl

pub bad_some : (a b : Option (Option ℕ)) (n : ℕ) → IfSome a (λ bad. b ≡ Some bad) → IfSome b (λ bad. bad ≡ Some n) → IfSome a (λ bad. IsSome bad)
bad_some None b n first next = tt
bad_some (Some bad) b n first next =
    let told : bad ≡ Some n = subst (λ x. IfSome x (λ bad. bad ≡ Some n)) first next in
    subst (λ x. IsSome x) (sym told) refl
