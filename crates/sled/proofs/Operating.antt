-- Merge operators of trees.
use Rattle.std.proofs.Common.{◌≡◌, ℕ, ◌≤◌, ◌<◌, Bool, true, false, cond, List, [], ◌∷◌, Option, Some, None, is_some, option_map, Result, Ok, Err, OnOk, OnErr, sym, refl, ap, ◌∙◌, subst, arith}
use Rattle.std.specs.Ordering.{nat_cmp}
use Rattle.std.specs.FinMap.Entries.{find}
use Rattle.std.specs.Str.{bytes_eq}
use Rattle.std.proofs.lemmas.Bool.{eqb-true}
use Rattle.std.proofs.lemmas.Bool.Decides.{nat_tests}
use Rattle.sled_nodes.specs.Order.{Key}
use Rattle.sled_store.specs.Update.{put_name}
use Rattle.sled_store.specs.theory.Facts.{same_name, name_itself}
use Rattle.sled_store.specs.Store.{Store, now}
use Rattle.sled_nodes.specs.declared.error.Error.{Error}
use Rattle.sled_nodes.specs.declared.error.Error.TheVariants as error
use Rattle.sled_model.specs.Maps.{Map, Merge}
use Rattle.sled_model.specs.State.{NamedTree}
use Rattle.sled_model.specs.Refusal.{MustRefuse, HasNoOperator, is_number, must_refuse, must_refuse_of, may_refuse_as, needs_operator, has_operator, ToPoint, ToSetOperator, cause_of}
use Rattle.sled_model.specs.declared.call.Call.{Call}
use Rattle.sled_model.specs.declared.tree.Tree.{Tree}
use Rattle.tree_laws.specs.Contents.{trees_of}
use Rattle.sled_tree.specs.declared.flight.InFlight.{InFlight}
use Rattle.sled_tree.specs.declared.flight.Went.{Went}
use Rattle.sled_tree.specs.theory.StageAction.{FlightStepBy, Only}
use Rattle.sled.specs.Values.{DbValue, numbers_of, given_to, named, state_of, db_state}
use Rattle.sled.specs.Sound.{IsDb}
use Rattle.sled.specs.Calls.{MustBeRefused, must_be_refused_as}
use Rattle.sled.specs.Opens.{Opens}
use Rattle.sled.specs.Operators.{OperatorSet, OperatorNotSet, without_operators}
use Rattle.tree_lists.specs.theory.Operators.{with_operator}
use Rattle.tree_lists.proofs.Operating.{find_set, find_other}
use Rattle.sled.proofs.Testing.{first_alone, must_plain, must_operated, must_unoperated, must_first}
use Rattle.sled.proofs.Trees.{current}

-- the meaning of an operator that was found
pub mapped : {A B C : Type 0} (f : B → C) (g : A → B) (o : Option A) → option_map (λ x. f (g x)) o ≡ option_map f (option_map g o)
mapped f g None = refl
mapped f g (Some x) = refl

pub by_operator : {x y : Option Merge} {a b : Store} {f g : InFlight} {went : Went} → x ≡ y → FlightStepBy (Only x) a f went b g → FlightStepBy (Only y) a f went b g
by_operator {a = a} {b = b} {f = f} {g = g} {went = went} e s = subst (λ z. FlightStepBy (Only z) a f went b g) e s

-- ---- the tree that passed the tests

module _ {P M : Type 0} (store : P → Store) (meant : M → Merge) (old : DbValue P M) (tree : Tree) (must : must_refuse_of (db_state store meant old) (tree ∷ []) ≡ None) where
  abbrev found : Option Merge
  found = option_map meant (find nat_cmp tree.number old.operators)

  -- it is there, with its operator
  pub record IsThere : Type 0 where
    pub number : numbers_of old.trees tree.name ≡ Some tree.number
    pub map : Map
    pub contents : trees_of (now (store old.pages)) tree.name ≡ Some map

  pub is_there : IsThere
  is_there = go (numbers_of old.trees tree.name) (trees_of (now (store old.pages)) tree.name) refl refl (current (db_state store meant old) tree must)
    where
      apart : {X : Type 0} → false ≡ true → X
      apart e = cc

      go : (n : Option ℕ) (m : Option Map) → numbers_of old.trees tree.name ≡ n → trees_of (now (store old.pages)) tree.name ≡ m → is_number tree.number (named n m (λ n. option_map meant (find nat_cmp n old.operators))) ≡ true → IsThere
      go None m a b e = apart e
      go (Some n) None a b e = apart e
      go (Some n) (Some m) a b e = record { number = a ∙ ap Some (eqb-true n tree.number e); map = m; contents = b }

  pub there : (db_state store meant old).trees tree.name ≡ Some (record { number = tree.number; map = is_there.map; merge = found })
  there = ap (λ n. named n (trees_of (now (store old.pages)) tree.name) (λ n. option_map meant (find nat_cmp n old.operators))) is_there.number ∙ ap (λ m. named (Some tree.number) m (λ n. option_map meant (find nat_cmp n old.operators))) is_there.contents

  pub operator_there : (o : Option M) → o ≡ find nat_cmp tree.number old.operators → has_operator ((db_state store meant old).trees tree.name) ≡ is_some o
  operator_there o e = ap has_operator there ∙ ap (λ z. is_some (option_map meant z)) (sym e) ∙ go o
    where
      go : (o : Option M) → is_some (option_map meant o) ≡ is_some o
      go None = refl
      go (Some m) = refl

  pub passes_operated : (m : M) → Some m ≡ find nat_cmp tree.number old.operators → (call : Call) → must_refuse (db_state store meant old) (ToPoint tree call) ≡ None
  passes_operated m e call = must_operated (db_state store meant old) tree call (operator_there (Some m) e) ∙ must

  pub fails_unoperated : None ≡ find nat_cmp tree.number old.operators → (e : Error) → must_be_refused_as (Some HasNoOperator) e → (call : Call) → needs_operator call ≡ true → MustBeRefused (must_refuse (db_state store meant old) (ToPoint tree call)) e
  fails_unoperated none e tells call needs = record { is = subst (λ o. must_be_refused_as o e) (sym (must_unoperated (db_state store meant old) tree call must needs (operator_there None none))) tells }

module _ {P M : Type 0} (store : P → Store) (meant : M → Merge) (old : DbValue P M) (tree : Tree) where
  -- a tree that fails its tests fails them before every call
  pub fails_first : (e : Error) → MustBeRefused (must_refuse_of (db_state store meant old) (tree ∷ [])) e → (call : Call) → MustBeRefused (must_refuse (db_state store meant old) (ToPoint tree call)) e
  fails_first e t call = record { is = go (must_refuse_of (db_state store meant old) (tree ∷ [])) refl t.is }
    where
      go : (o : Option MustRefuse) → must_refuse_of (db_state store meant old) (tree ∷ []) ≡ o → must_be_refused_as o e → must_be_refused_as (must_refuse (db_state store meant old) (ToPoint tree call)) e
      go None is t = absurd t
      go (Some m) is t = subst (λ o. must_be_refused_as o e) (sym (must_first (db_state store meant old) tree call m is)) t

  pub passes_plain : must_refuse_of (db_state store meant old) (tree ∷ []) ≡ None → (call : Call) → needs_operator call ≡ false → must_refuse (db_state store meant old) (ToPoint tree call) ≡ None
  passes_plain must call plain = must_plain (db_state store meant old) tree call plain ∙ must

  -- ---- an operator is set, or not

  pub unset : (e : Error) → MustBeRefused (must_refuse_of (db_state store meant old) (tree ∷ [])) e → OperatorNotSet store meant old tree e old
  unset e t = record { may = record { is = subst (λ o. may_refuse_as o (cause_of (db_state store meant old) (store old.pages) (store old.pages) (ToSetOperator tree)) e) (sym (first_alone (must_refuse_of (db_state store meant old) (tree ∷ [])))) (go (must_refuse_of (db_state store meant old) (tree ∷ [])) t.is) }; is = refl }
    where
      go : (o : Option MustRefuse) → must_be_refused_as o e → may_refuse_as o (cause_of (db_state store meant old) (store old.pages) (store old.pages) (ToSetOperator tree)) e
      go None t = absurd t
      go (Some m) t = t

  pub unset_short : must_refuse_of (db_state store meant old) (tree ∷ []) ≡ None → (e : Error) → e ≡ error.NoMemory → OperatorNotSet store meant old tree e old
  unset_short must e short = subst (λ z. OperatorNotSet store meant old tree z old) (sym short) (record { may = record { is = subst (λ o. may_refuse_as o (cause_of (db_state store meant old) (store old.pages) (store old.pages) (ToSetOperator tree)) error.NoMemory) (sym (first_alone (must_refuse_of (db_state store meant old) (tree ∷ [])) ∙ must)) tt }; is = refl })

module _ {P M : Type 0} (store : P → Store) (meant : M → Merge) (old : DbValue P M) (db : IsDb store old) (tree : Tree) (must : must_refuse_of (db_state store meant old) (tree ∷ []) ≡ None) (operator : M) where
  abbrev after : DbValue P M
  after = record old { operators = with_operator tree.number operator old.operators }

  abbrev merges : List (ℕ × M) → ℕ → Option Merge
  merges operators n = option_map meant (find nat_cmp n operators)

  abbrev named_tree : NamedTree
  named_tree = record { number = tree.number; map = (is_there store meant old tree must).map; merge = found store meant old tree must }

  -- the trees, where the operator of the one is another
  set_trees : (t : Key) → (db_state store meant after).trees t ≡ put_name (db_state store meant old).trees tree.name (Some (record named_tree { merge = Some (meant operator) })) t
  set_trees t = go (bytes_eq t tree.name) refl
    where
      apart : true ≡ false → ⊥
      apart e = cc

      elsewhere : bytes_eq t tree.name ≡ false → (n : Option ℕ) → numbers_of old.trees t ≡ n → (m : Option Map) → named n m (merges after.operators) ≡ named n m (merges old.operators)
      elsewhere off None is m = refl
      elsewhere off (Some n) is None = refl
      elsewhere off (Some n) is (Some m) = ap (λ z. Some (record { number = n; map = m; merge = option_map meant z }))
          (find_other tree.number operator n (λ e. apart (sym (name_itself tree.name) ∙ ap (λ z. bytes_eq z tree.name) (sym (db.is.apart t tree.name tree.number (is ∙ ap Some e) (is_there store meant old tree must).number)) ∙ off)) old.operators)

      go : (b : Bool) → bytes_eq t tree.name ≡ b → (db_state store meant after).trees t ≡ cond (bytes_eq t tree.name) (Some (record named_tree { merge = Some (meant operator) })) ((db_state store meant old).trees t)
      go true e =
          ap (λ z. named (numbers_of old.trees z) (trees_of (now (store old.pages)) z) (merges after.operators)) (same_name t tree.name e)
          ∙ ap (λ n. named n (trees_of (now (store old.pages)) tree.name) (merges after.operators)) (is_there store meant old tree must).number
          ∙ ap (λ m. named (Some tree.number) m (merges after.operators)) (is_there store meant old tree must).contents
          ∙ ap (λ z. Some (record { number = tree.number; map = (is_there store meant old tree must).map; merge = option_map meant z })) (find_set tree.number operator old.operators)
          ∙ ap (λ b. cond b (Some (record named_tree { merge = Some (meant operator) })) ((db_state store meant old).trees t)) (sym e)
      go false e =
          elsewhere e (numbers_of old.trees t) refl (trees_of (now (store old.pages)) t)
          ∙ ap (λ b. cond b (Some (record named_tree { merge = Some (meant operator) })) ((db_state store meant old).trees t)) (sym e)

  pub set_now : OperatorSet store meant old tree (meant operator) after
  set_now = record {
    sets = λ slots given. record {
      free = first_alone (must_refuse_of (db_state store meant old) (tree ∷ [])) ∙ must;
      named = named_tree;
      there = there store meant old tree must;
      is = λ i. record (state_of store meant old slots given) { trees = λ t. set_trees t i };
    };
    same = refl;
  }

  -- its number was given
  number_within : tree.number ≤ old.trees_given
  number_within = within tree.number old.trees_given (db.is.given tree.name tree.number (is_there store meant old tree must).number)
    where
      within : (n last : ℕ) → given_to last n ≡ true → n ≤ last
      within n last e = grind (arith, nat_tests)

  set_ungiven : (n : ℕ) → old.trees_given < n → find nat_cmp n after.operators ≡ None
  set_ungiven n above = find_other tree.number operator n (λ e. beyond n above (sym e) number_within) old.operators ∙ db.ungiven n above
    where
      beyond : (n : ℕ) → old.trees_given < n → tree.number ≡ n → tree.number ≤ old.trees_given → ⊥
      beyond n above e within = omega arith

  pub set_db : IsDb store after
  set_db = record { forest = db.forest; is = db.is; sized = db.sized; safe = db.safe; ascends = db.ascends; default = db.default; ungiven = set_ungiven; calm = db.calm; ids = db.ids }

-- the same, where a method knows the database by its fields
pub set_told : {P M E : Type 0} (store : P → Store) (meant : M → Merge) (inside old : DbValue P M) (e : inside ≡ old) (db : IsDb store inside) (tree : Tree) (operator : M) (r : Result (Unit {0}) E) (operators : List (ℕ × M))
    → must_refuse_of (db_state store meant old) (tree ∷ []) ≡ None → OnOk r (operators ≡ with_operator tree.number operator inside.operators) → OnOk r (OperatorSet store meant old tree (meant operator) (record inside { operators = operators }))
set_told store meant inside old e db tree operator (Ok done) operators must is =
    subst (λ z. OperatorSet store meant z tree (meant operator) (record inside { operators = operators })) e
    (subst (λ z. OperatorSet store meant inside tree (meant operator) (record inside { operators = z })) (sym is) (set_now store meant inside db tree (subst (λ z. must_refuse_of (db_state store meant z) (tree ∷ []) ≡ None) (sym e) must) operator))
set_told store meant inside old e db tree operator (Err x) operators must is = tt

-- .. and what holds of it, whether or not there was memory
pub set_db_told : {P M E : Type 0} (store : P → Store) (meant : M → Merge) (inside old : DbValue P M) (e : inside ≡ old) (db : IsDb store inside) (tree : Tree) (operator : M) (r : Result (Unit {0}) E) (operators : List (ℕ × M))
    → must_refuse_of (db_state store meant old) (tree ∷ []) ≡ None → OnOk r (operators ≡ with_operator tree.number operator inside.operators) → OnErr r (operators ≡ inside.operators) → IsDb store (record inside { operators = operators })
set_db_told store meant inside old e db tree operator (Ok done) operators must is same =
    subst (λ z. IsDb store (record inside { operators = z })) (sym is) (set_db store meant inside db tree (subst (λ z. must_refuse_of (db_state store meant z) (tree ∷ []) ≡ None) (sym e) must) operator)
set_db_told store meant inside old e db tree operator (Err x) operators must is same = subst (λ z. IsDb store (record inside { operators = z })) (sym same) db

-- what holds of a database holds of it without its operators
pub bare_db : {P M N : Type 0} (store : P → Store) (d : DbValue P M) → IsDb store d → IsDb store (without_operators {N = N} d)
bare_db store d s = record { forest = s.forest; is = s.is; sized = s.sized; safe = s.safe; ascends = s.ascends; default = s.default; ungiven = λ n above. refl; calm = s.calm; ids = s.ids }

-- so it is opened without them, since no tree has one then
pub bare_opens : {P M N : Type 0} (store : P → Store) (before : Store) (name : Key) (d : DbValue P M) → Opens store before name d → Opens store before name (without_operators {N = N} d)
bare_opens store before name d o = record {
  middle = o.middle;
  grows = o.grows;
  flushes = o.flushes;
  left = o.left;
  maps = o.maps;
  fresh = o.fresh;
  names = o.names;
  numbers = o.numbers;
  ascends = o.ascends;
  each = o.each;
  given = o.given;
  ids = o.ids;
  operators = refl;
  queues = o.queues;
  no_group = o.no_group;
  name = o.name;
  mark = o.mark;
  recovered = o.recovered;
  readable = o.readable;
  faults = o.faults;
}
