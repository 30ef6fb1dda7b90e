-- Handles that are kept, and what one caller made.
use Rattle.std.proofs.Common.{◌≡◌, ◌∙◌, ℕ, ◌+◌, ◌≤◌, IfSome, Bool, true, cond, length, length-append, List, [], ◌∷◌, ◌++◌, All, Option, Some, None, sym, refl, ap, append_assoc, subst, arith}
use Rattle.std.specs.List.{AllByRecursion}
use Rattle.std.proofs.lemmas.List.Elements.{All-push, All-from_recursion, recursion_from_All}
use Rattle.std.proofs.lemmas.List.{length-map}
use Rattle.sled_nodes.specs.Order.{Key}
use Rattle.sled_model.specs.declared.tree.Tree.{Tree}
use Rattle.tree_laws.proofs.Pairs.{each_append}
use Rattle.machine_shared.specs.Made.{MadeValue}
use Rattle.machine_shared.specs.Values.{CallerValue}
use Rattle.example_parts.specs.Counters.{number_in}
use Rattle.example_shared.specs.Raising.{Raises, is_part, swapped, swapped_by}
use Rattle.example_shared.proofs.Standing.{all_first}
use Rattle.example_crashes.specs.theory.Raised.{HasRaised}
use Rattle.example_crashes.proofs.Together.{last_of_all}

-- ---- lists

pub pushed : {X : Type 0} (P : X → Type 0) (more before : List X) (x : X) (b : Bool) → b ≡ true → more ≡ cond b (before ++ x ∷ []) before → All P before → P x → All P more
pushed P more before x b so e all p = subst (All P) (sym (e ∙ ap (λ b. cond b (before ++ x ∷ []) before) so)) (All-push P before x all p)

pub behind : {X : Type 0} (more before : List X) (x : X) (b : Bool) → b ≡ true → more ≡ cond b (before ++ x ∷ []) before → more ≡ before ++ x ∷ []
behind more before x b so e = e ∙ ap (λ b. cond b (before ++ x ∷ []) before) so

pub popped : {X : Type 0} (P : X → Type 0) (xs rest : List X) (x : X) → xs ≡ rest ++ x ∷ [] → All P xs → All P rest × P x
popped P xs rest x e all =
    let both = subst (All P) e all in
    (All-from_recursion P rest (all_first P rest (x ∷ []) (recursion_from_All P (rest ++ x ∷ []) both)), last_of_all P rest x both)

pub some_goes : {A : Type 0} (o : Option A) (P Q : A → Type 0) → ((x : A) → P x → Q x) → IfSome o P → IfSome o Q
some_goes None P Q go h = tt
some_goes (Some x) P Q go h = go x h

-- ---- what one caller made

added_one : (a b n : ℕ) → a ≡ n → b ≡ 1 → a + b ≡ n + 1
added_one a b n e f = omega arith

all_times : (n times : ℕ) → times ≤ n → n ≤ times → n ≡ times
all_times n times l m = omega arith

module _ (tree : Tree) (key : Key) where
  swapped_on : (made more : List MadeValue) → swapped tree.name key (made ++ more) ≡ swapped tree.name key made ++ swapped tree.name key more
  swapped_on [] more = refl
  swapped_on (m ∷ made) more = ap (λ l. swapped_by tree.name key m ++ l) (swapped_on made more) ∙ sym (append_assoc (swapped_by tree.name key m) (swapped tree.name key made) (swapped tree.name key more))

  pub raised_none : (c : CallerValue) → c.made ≡ [] → HasRaised tree key 0 c
  raised_none c none = record { only = subst (AllByRecursion (is_part tree key)) (sym none) tt; count = ap (λ made. length (swapped tree.name key made)) none }

  pub raised_more : (n m : ℕ) (old new : CallerValue) → HasRaised tree key n old → Raises tree key (Some m) old.made new.made → HasRaised tree key (n + 1) new
  raised_more n m old new h r = record {
    only = subst (AllByRecursion (is_part tree key)) (sym r.adds) (each_append (is_part tree key) old.made r.added h.only r.parts);
    count =
        ap (λ made. length (swapped tree.name key made)) r.adds
        ∙ ap length (swapped_on old.made r.added)
        ∙ length-append (swapped tree.name key old.made) (swapped tree.name key r.added)
        ∙ added_one _ _ n h.count (sym (length-map (swapped tree.name key r.added) (λ (s : Option Key × Option Key). number_in s.1)) ∙ ap length r.wrote);
  }

  pub raised_all : (n times : ℕ) (c : CallerValue) → HasRaised tree key n c → times ≤ n → n ≤ times → HasRaised tree key times c
  raised_all n times c h l m = subst (λ k. HasRaised tree key k c) (all_times n times l m) h
