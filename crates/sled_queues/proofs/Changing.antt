-- The queues of a list are changed one after the other.
use Rattle.std.proofs.Common.{◌≡◌, ℕ, ◌+◌, ◌-◌, ◌<◌, Bool, true, false, cond, nat_eq, ◌||◌, List, [], ◌∷◌, ◌++◌, take, length, get_or, Option, Some, None, option_map, sym, refl, ap, ◌∙◌, arith}
use Rattle.std.proofs.lemmas.Bool.{eqb-true}
use Rattle.std.proofs.lemmas.List.{length-append}
use Rattle.std.proofs.lemmas.List.Folds.{list_any_more}
use Rattle.std.proofs.Math.Seq.{take-length, take-append_seam}
use Rattle.sled_model.specs.declared.event.Event.{Event}
use Rattle.sled_queues.specs.Values.{WaitingValue, Waitings}
use Rattle.sled_queues.specs.Lists.{is_in, Once}
use Rattle.sled_queues.specs.theory.Lists.{changed_at, changed_in, gains, loses}
use Rattle.sled_queues.proofs.Single.{unmet}

one_more : {W : Type 0} (f : W → W) (b c : Bool) (o : Option W) → (c ≡ true → b ≡ false) → cond c (option_map f (cond b (option_map f o) o)) (cond b (option_map f o) o) ≡ cond (b || c) (option_map f o) o
one_more f true true o h = ap (λ b. cond b (option_map f (option_map f o)) (option_map f o)) (h refl)
one_more f true false o h = refl
one_more f false true o h = refl
one_more f false false o h = refl

pub changes_more : (f : WaitingValue → WaitingValue) (ns : List ℕ) (i d : ℕ) (a b c : Waitings) → Once ns → i < length ns
    → ((n : ℕ) → b n ≡ changed_in f (take i ns) a n) → ((n : ℕ) → c n ≡ changed_at f (get_or ns i d) b n) → (n : ℕ) → c n ≡ changed_in f (take (i + 1) ns) a n
changes_more f ns i d a b c r l is next n =
    next n
    ∙ ap (λ o. cond (nat_eq n (get_or ns i d)) (option_map f o) o) (is n)
    ∙ one_more f (is_in n (take i ns)) (nat_eq n (get_or ns i d)) (a n) (λ e. ap (λ k. is_in k (take i ns)) (eqb-true n (get_or ns i d) e) ∙ unmet ns i d r l)
    ∙ sym (ap (λ b. cond b (option_map f (a n)) (a n)) (list_any_more (nat_eq n) ns i d l))

-- .. also those that stand there more than once, where a second change changes nothing
once_more : {W : Type 0} (f : W → W) (b c : Bool) (o : Option W) → ((w : W) → f (f w) ≡ f w) → cond c (option_map f (cond b (option_map f o) o)) (cond b (option_map f o) o) ≡ cond (b || c) (option_map f o) o
once_more f true true None h = refl
once_more f true true (Some w) h = ap Some (h w)
once_more f true false o h = refl
once_more f false true o h = refl
once_more f false false o h = refl

pub changes_again : (f : WaitingValue → WaitingValue) (ns : List ℕ) (i d : ℕ) (a b c : Waitings) → ((w : WaitingValue) → f (f w) ≡ f w) → i < length ns
    → ((n : ℕ) → b n ≡ changed_in f (take i ns) a n) → ((n : ℕ) → c n ≡ changed_at f (get_or ns i d) b n) → (n : ℕ) → c n ≡ changed_in f (take (i + 1) ns) a n
changes_again f ns i d a b c r l is next n =
    next n
    ∙ ap (λ o. cond (nat_eq n (get_or ns i d)) (option_map f o) o) (is n)
    ∙ once_more f (is_in n (take i ns)) (nat_eq n (get_or ns i d)) (a n) r
    ∙ sym (ap (λ b. cond b (option_map f (a n)) (a n)) (list_any_more (nat_eq n) ns i d l))

pub changes_all : (f : WaitingValue → WaitingValue) (ns : List ℕ) (i : ℕ) (a b : Waitings) → i ≡ length ns → ((n : ℕ) → b n ≡ changed_in f (take i ns) a n) → (n : ℕ) → b n ≡ changed_in f ns a n
changes_all f ns i a b e is n = is n ∙ ap (λ k. changed_in f (take k ns) a n) e ∙ ap (λ l. changed_in f l a n) (take-length ns)

-- the last one goes again
shorter : {X : Type 0} (xs : List X) (x : X) → take (length (xs ++ x ∷ []) - 1) (xs ++ x ∷ []) ≡ xs
shorter xs x = let e : length (xs ++ x ∷ []) - 1 ≡ length xs = minus (length xs) (length (xs ++ x ∷ [])) (length-append xs (x ∷ [])) in ap (λ k. take k (xs ++ x ∷ [])) e ∙ take-append_seam xs (x ∷ [])
  where
    minus : (a b : ℕ) → b ≡ a + 1 → b - 1 ≡ a
    minus a b e = omega arith

gained_lost : (e : Event) (w : WaitingValue) → loses (gains e w) ≡ w
gained_lost e w = ap (λ l. record w { coming = l }) (shorter w.coming e)

both : {W : Type 0} (f g : W → W) (b : Bool) (o : Option W) → ((w : W) → g (f w) ≡ w) → cond b (option_map g (cond b (option_map f o) o)) (cond b (option_map f o) o) ≡ o
both f g true None h = refl
both f g true (Some w) h = ap Some (h w)
both f g false o h = refl

-- what some have gained they lose again
pub goes_back : (e : Event) (ns : List ℕ) (a b c d : Waitings) → ((n : ℕ) → b n ≡ changed_in (gains e) ns a n) → ((n : ℕ) → c n ≡ b n) → ((n : ℕ) → d n ≡ changed_in loses ns c n) → (n : ℕ) → d n ≡ a n
goes_back e ns a b c d is same back n = back n ∙ ap (λ o. cond (is_in n ns) (option_map loses o) o) (same n ∙ is n) ∙ both (gains e) loses (is_in n ns) (a n) (gained_lost e)
