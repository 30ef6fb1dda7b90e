-- A tree of a new name is made in a database.
use Rattle.std.proofs.Common.{◌≡◌, ℕ, ◌+◌, ◌<◌, ◌≤◌, Bool, true, false, not, cond, nat_eq, List, [], ◌∷◌, Option, Some, None, option_map, Result, Ok, Err, IfOk, IfErr, Bor, Less, Equal, Greater, is_eq, refl, sym, ap, ◌∙◌, subst, inl, inr, arith}
use Rattle.std.specs.Prelude.{is_none}
use Rattle.std.proofs.Math.Path.{fun_ext}
use Rattle.std.proofs.lemmas.Bool.Decides.{nat_tests}
use Rattle.std.proofs.lemmas.Cmp.{tied_itself}
use Rattle.std.specs.FinMap.Entries.{put, find, find-put}
use Rattle.std.specs.Ordering.{nat_cmp, eq_by_cmp}
use Rattle.std.specs.Str.{bytes_eq}
use Rattle.std.specs.declared.cmp.Ordering.{Ordering}
use Rattle.sled_nodes.proofs.Basics.{none_some, false_true, key_total, key_same}
use Rattle.sled_nodes.specs.Order.{Key, key_cmp}
use Rattle.sled_store.specs.In.{In}
use Rattle.sled_store.specs.Update.{put_at, put_name}
use Rattle.sled_store.specs.State.{State as PageState}
use Rattle.sled_store.specs.Store.{Store, now, IsRefused, is_refused_as, AreGiven}
use Rattle.sled_nodes.specs.declared.error.Error.{Error}
use Rattle.sled_nodes.specs.declared.error.Error.TheVariants as error
use Rattle.sled_nodes.specs.declared.texts.TheConstants.{NUMBERS_USED_UP}
use Rattle.sled_store.specs.declared.page.Page.{Page}
use Rattle.sled_store.specs.theory.Facts.{same_name, name_itself, put_name_elsewhere}
use Rattle.sled_nodes.proofs.Rising.{rises_put}
use Rattle.sled_model.specs.Maps.{Map, Maps, Merge}
use Rattle.sled_model.specs.State.{NamedTree, CallInFlight, maps_of, default_name}
use Rattle.sled_model.specs.Refusal.{IsClosed, first_of, must_refuse, MayRefuse, ToCall, cause_of, may_refuse_as}
use Rattle.sled_model.specs.Whole.{number_opened, state_opened, maps_if}
use Rattle.sled_model.specs.declared.call.Whole.TheVariants.{OpenTree}
use Rattle.sled_model.specs.declared.reply.Reply.TheVariants as told
use Rattle.sled_model.specs.declared.tree.Tree.{Tree}
use Rattle.sled_model.proofs.Shapes.{new_tree}
use Rattle.tree_laws.specs.Contents.{trees_of}
use Rattle.tree_laws.specs.Crashes.{IsValid, AddsCrashStates}
use Rattle.tree_laws.specs.Forest.{IsSized, contents}
use Rattle.tree_laws.specs.Snapshot.{Snapshot, snapshot_of, nodes_at, HasForest}
use Rattle.tree_laws.specs.theory.Laws.{Rooted, StepsForest, after_allocation, after_creation}
use Rattle.tree_laws.specs.theory.Snapshot.{KeepsForest}
use Rattle.tree_laws.specs.Stages.{IsOwn}
use Rattle.tree_laws.proofs.Crashing.{extends_then}
use Rattle.tree_laws.proofs.Known.{store_allocated, store_planted}
use Rattle.tree_laws.proofs.Roots.{plant_law}
use Rattle.tree_laws.proofs.Splitting.{allocates}
use Rattle.tree_laws.proofs.States.{planted_law}
use Rattle.sled_tree.specs.Known.{IsKnown}
use Rattle.sled_tree.specs.declared.flight.InFlight.{InFlight}
use Rattle.sled_tree.proofs.Facts.{once_made, once_rooted, grows_not}
use Rattle.sled_tree.proofs.Known.{not_own, known_kept}
use Rattle.sled_tree.proofs.Splits.{made_below}
use Rattle.sled.specs.Values.{DbValue, named, numbers_of, given_to, state_of, db_state, snapshot_of_db}
use Rattle.sled_queues.specs.Values.{queue_at}
use Rattle.sled_queues.specs.Queues.{queues_of}
use Rattle.sled.specs.Sound.{IsDb}
use Rattle.sled.specs.Flights.{IsStepRefused}
use Rattle.sled.specs.Opens.{empty_page, MakesLeaf, MakesTree, StopsMaking, planted, or_empty}
use Rattle.sled.specs.theory.Opens.{HasTree}
use Rattle.tree_groups.specs.Writes.{NoAction, OneAction}
use Rattle.sled.specs.Direct.{KeepsOrFreesTreePages, WholeDecided, WholeRefused}
use Rattle.sled.proofs.Conducting.{loses_then, loses_once, leaves_none}
use Rattle.sled.proofs.Flushing.{only, same_state}
use Rattle.sled.proofs.Flying.{loses_acting, state_over}
use Rattle.sled.proofs.Numbering.{leaves_rests}
use Rattle.sled.proofs.Opening.{grown, calm_then, unseen, absent, planted_absent, tree_made}
use Rattle.sled.proofs.Resting.{Rests, rests_only_faults, rests_now, rests_extends, now_rests}
use Rattle.sled.proofs.Trees.{trees_at, maps_are}
use Rattle.tree_steps.proofs.Watching.{same_queues}

-- ---- the names and their numbers

-- two names tie where they are one
pub same_test : (t name : Key) → eq_by_cmp key_cmp t name ≡ bytes_eq t name
same_test t name = go (bytes_eq t name) (eq_by_cmp key_cmp t name) refl refl
  where
    order : (o : Ordering) → is_eq o ≡ true → o ≡ Equal
    order Less q = false_true q
    order Equal q = refl
    order Greater q = false_true q

    go : (b c : Bool) → bytes_eq t name ≡ b → eq_by_cmp key_cmp t name ≡ c → eq_by_cmp key_cmp t name ≡ bytes_eq t name
    go true true p q = q ∙ sym p
    go false false p q = q ∙ sym p
    go true false p q = false_true (sym q ∙ ap (λ z. eq_by_cmp key_cmp z name) (same_name t name p) ∙ ap is_eq (tied_itself key_total name))
    go false true p q = false_true (sym p ∙ ap (λ z. bytes_eq z name) (key_same t name (order (key_cmp t name) q)) ∙ name_itself name)

numbers_put : (trees : List (Key × ℕ)) (name : Key) (n : ℕ) → numbers_of (put key_cmp name n trees) ≡ put_name (numbers_of trees) name (Some n)
numbers_put trees name n = fun_ext (λ t. find-put key_cmp key_total t name n trees ∙ ap (λ b. cond b (Some n) (find key_cmp t trees)) (same_test t name))

-- one number more is given
given_more : (n : ℕ) → given_to (n + 1) ≡ put_at (given_to n) (n + 1) true
given_more n = fun_ext (λ k. go k (nat_eq k (n + 1)) refl)
  where
    go : (k : ℕ) (b : Bool) → nat_eq k (n + 1) ≡ b → given_to (n + 1) k ≡ cond (nat_eq k (n + 1)) true (given_to n k)
    go k true e = grind (arith, nat_tests)
    go k false e = grind (arith, nat_tests)

not_given : (n : ℕ) → given_to n (n + 1) ≡ false
not_given n = grind (arith, nat_tests)

-- ---- the store refuses

-- a refusal of the store is one of a step
step_refused : (e : Error) (a b : Store) → is_refused_as e a b → IsStepRefused e a b
step_refused error.NoMemory a b t = t
step_refused (error.Io fault) a b t = inl t
step_refused other a b t = absurd t

module _ {P M : Type 0} (store : P → Store) (meant : M → Merge) (old : DbValue P M) (no_group : (now (store old.pages)).in_group ≡ false) (name : Key) where
  must : (slots : ℕ → Option CallInFlight) (given : ℕ) → must_refuse (state_of store meant old slots given) (ToCall (OpenTree name)) ≡ None
  must slots given = ap (λ b. first_of (first_of (cond (not b) None (Some IsClosed)) None) None) no_group

  may : (slots : ℕ → Option CallInFlight) (given : ℕ) (b : Store) (e : Error) → cause_of (state_of store meant old slots given) (store old.pages) b (ToCall (OpenTree name)) e → MayRefuse (state_of store meant old slots given) (store old.pages) b (ToCall (OpenTree name)) e
  may slots given b e k = record { is = subst (λ o. may_refuse_as o (cause_of (state_of store meant old slots given) (store old.pages) b (ToCall (OpenTree name))) e) (sym (must slots given)) k }

  -- ---- a name that is known

  module _ (db : IsDb store old) (n : ℕ) (known : numbers_of old.trees name ≡ Some n) where
    abbrev known_map : Map
    known_map = contents (nodes_at (snapshot_of_db store old)) db.forest name

    there : (slots : ℕ → Option CallInFlight) (given : ℕ) → (state_of store meant old slots given).trees name ≡ Some (record { number = n; map = known_map; merge = option_map meant (find nat_cmp n old.operators) })
    there slots given =
        ap (λ o. named o (trees_of (now (store old.pages)) name) (λ n. option_map meant (find nat_cmp n old.operators))) known
        ∙ ap (λ o. named (Some n) o (λ n. option_map meant (find nat_cmp n old.operators))) (trees_at (store old.pages) (numbers_of old.trees) (given_to old.trees_given) db.forest db.is name ∙ ap (option_map (λ _. known_map)) known)

    opens_known : (t : Tree) → t ≡ record { database = old.name; name = name; number = n } → WholeDecided store meant old (OpenTree name) (told.Tree t) old
    opens_known t is = record {
      maps = [];
      decides = λ slots given number. record {
        free = must slots given;
        replies = ap told.Tree is ∙ ap (λ (o : Option NamedTree). told.Tree (record { database = old.name; name = name; number = number_opened o (state_of store meant old slots given) })) (sym (there slots given));
        is = ap (λ (o : Option NamedTree). state_opened o (state_of store meant old slots given) name) (sym (there slots given));
        added = ap (λ (o : Option NamedTree). maps_if (is_none o) (state_of store meant old slots given)) (sym (there slots given));
      };
      acts = NoAction;
      leaves = leaves_none store meant old;
      same = refl;
    }

    -- the number that an opening tells
    pub number_known : n ≡ number_opened ((db_state store meant old).trees name) (db_state store meant old)
    number_known = ap (λ (o : Option NamedTree). number_opened o (db_state store meant old)) (sym (there (λ n. None) 0))

    pub all_known : (r : Result Tree Error) → IfOk r (λ t. t ≡ record { database = old.name; name = name; number = n }) → IfOk r (λ t. WholeDecided store meant old (OpenTree name) (told.Tree t) old)
    all_known (Ok t) is = opens_known t is
    all_known (Err e) is = tt

  -- .. and of a name that is new
  pub number_new : (inside : DbValue P M) → inside ≡ old → numbers_of old.trees name ≡ None → inside.trees_given + 1 ≡ number_opened ((db_state store meant old).trees name) (db_state store meant old)
  number_new inside same unknown = ap (λ (z : DbValue P M). z.trees_given + 1) same ∙ ap (λ (o : Option NamedTree). number_opened o (db_state store meant old)) (sym (ap (λ o. named o (trees_of (now (store old.pages)) name) (λ n. option_map meant (find nat_cmp n old.operators))) unknown))

  -- there is no memory, or no number
  pub opens_not : (e : Error) → ((slots : ℕ → Option CallInFlight) (given : ℕ) → cause_of (state_of store meant old slots given) (store old.pages) (store old.pages) (ToCall (OpenTree name)) e) → IsStepRefused e (store old.pages) (store old.pages) → WholeRefused store meant old (OpenTree name) e old
  opens_not e cause quiet = record {
    maps = [];
    refuses = λ slots given. (may slots given (store old.pages) e (cause slots given), refl, refl);
    acts = (store old.pages, NoAction, quiet);
    leaves = leaves_none store meant old;
    same = refl;
    tested = λ no. refl;
  }

  pub opens_short : (e : Error) → e ≡ error.NoMemory → WholeRefused store meant old (OpenTree name) e old
  opens_short e is = subst (λ x. WholeRefused store meant old (OpenTree name) x old) (sym is) (opens_not error.NoMemory (λ slots given. tt) refl)

  pub all_short : (r : Result Tree Error) → IfErr r (λ e. e ≡ error.NoMemory) → IfErr r (λ e. WholeRefused store meant old (OpenTree name) e old)
  all_short (Ok t) is = tt
  all_short (Err e) is = opens_short e is

  pub opens_used_up : (text : Bor Key) → text.now ≡ NUMBERS_USED_UP.now → numbers_of old.trees name ≡ None → old.trees_given ≡ 18446744073709551615 → WholeRefused store meant old (OpenTree name) (error.Unsupported text) old
  opens_used_up text told_so unknown all = opens_not (error.Unsupported text) (λ slots given. (told_so, ap (λ n. named n (trees_of (now (store old.pages)) name) (λ n. option_map meant (find nat_cmp n old.operators))) unknown, all)) refl

  -- ---- a new name

  module _ (db : IsDb store old) (are : AreGiven (store old.pages)) (unknown : numbers_of old.trees name ≡ None) where
    abbrev at : Snapshot
    at = snapshot_of_db store old

    pub no_root : (now (store old.pages)).roots name ≡ None
    no_root = go ((now (store old.pages)).roots name) refl
      where
        go : (o : Option ℕ) → (now (store old.pages)).roots name ≡ o → o ≡ None
        go None e = refl
        go (Some r) e = let k = db.is.numbered name r e in none_some (sym unknown ∙ k.1)

    well : IsValid (now (store old.pages))
    well = record { forest = db.forest; formed = db.is.formed; sized = db.sized }

    not_there : (slots : ℕ → Option CallInFlight) (given : ℕ) → (state_of store meant old slots given).trees name ≡ None
    not_there slots given = ap (λ n. named n (trees_of (now (store old.pages)) name) (λ n. option_map meant (find nat_cmp n old.operators))) unknown

    -- the page is made
    module _ (b : Store) (leaf : MakesLeaf (store old.pages) b) where
      abbrev middle : Snapshot
      middle = after_allocation at leaf.pid (record { version = leaf.version; node = empty_page })

      shows : snapshot_of b (numbers_of old.trees) (given_to old.trees_given) ≡ middle
      shows = store_allocated (numbers_of old.trees) (given_to old.trees_given) leaf.is

      made : KeepsForest [] (leaf.pid ∷ []) at db.forest middle db.forest × ((t : Key) → contents (nodes_at middle) db.forest t ≡ contents (nodes_at at) db.forest t) × IsOwn middle db.forest leaf.pid leaf.version empty_page
      made = allocates db.is leaf.is.fresh_pid leaf.is.fresh (made_below leaf.is leaf.given)

      made_known : (h : InFlight) → IsKnown at h → IsKnown middle h
      made_known h k = known_kept db.is made.0 h k (λ q i. absurd i)

      -- and then the store refuses
      module _ (q : P) (e : Error) (r : IsRefused e b (store q)) where
        rests : Rests b (store q)
        rests = rests_only_faults e b (store q) (only e b (store q) r.is)

        abbrev left : DbValue P M
        left = record old { pages = q }

        shows_left : snapshot_of_db store left ≡ middle
        shows_left = (λ i. record { state = now_rests rests i; pids = rests.pids i; versions = rests.versions i; numbers = numbers_of old.trees; given = given_to old.trees_given }) ∙ shows

        left_extends : AddsCrashStates [] (store old.pages) (store q)
        unfolding well
        left_extends = extends_then (grown name well no_group are leaf.given no_root leaf.is) (rests_extends rests)

        left_mark : (store q).mark ≡ (store old.pages).mark
        left_mark = rests.mark ∙ ap (λ (s : Store). s.mark) leaf.is.is

        pub left_db : IsDb store left
        left_db = record {
          forest = db.forest;
          is = subst (λ (m : Snapshot). HasForest m db.forest) (sym shows_left) made.0.is;
          sized = subst (λ (m : Snapshot). IsSized (nodes_at m) db.forest) (sym shows_left) (made.0.sized db.sized);
          safe = left_extends.safe db.safe;
          ascends = db.ascends;
          default = db.default;
          ungiven = db.ungiven;
          calm = db.calm;
          ids = subst (λ m. old.greatest_id ≤ m) (sym left_mark) db.ids;
        }

        left_state : (slots : ℕ → Option CallInFlight) (given : ℕ) → state_of store meant left slots given ≡ state_of store meant old slots given
        unfolding well
        left_state slots given = state_over store meant old db q old.queues (same_queues old.queues old.queues refl) slots slots given
            (λ t. ap (λ (s : PageState). trees_of s t) (now_rests rests) ∙ ap (λ (m : Maps). m t) (unseen name well no_group are leaf.given no_root leaf.is))
            (ap (λ (s : PageState). s.in_group) (now_rests rests) ∙ calm_then name well no_group are leaf.given no_root leaf.is ∙ sym no_group)
            left_mark

        left_cause : (slots : ℕ → Option CallInFlight) (given : ℕ) (x : Error) → is_refused_as x b (store q) → cause_of (state_of store meant old slots given) (store old.pages) (store q) (ToCall (OpenTree name)) x
        left_cause slots given error.NoMemory t = tt
        left_cause slots given (error.Io fault) t = (not_there slots given, more (store old.pages).faults b.faults (store q).faults (ap (λ (s : Store). s.faults) leaf.is.is) (ap (λ (s : Store). s.faults) t))
          where
            more : (x y z : ℕ) → y ≡ x → z ≡ y + 1 → x < z
            more x y z e f = omega arith
        left_cause slots given other t = absurd t

        left_refused : WholeRefused store meant old (OpenTree name) e left
        left_refused = record {
          maps = [];
          refuses = λ slots given. (may slots given (store q) e (left_cause slots given e r.is), left_state slots given, refl);
          acts = (b, OneAction (once_made leaf.is) NoAction, step_refused e b (store q) r.is);
          leaves = record {
            extends = left_extends;
            others = λ h k. subst (λ (m : Snapshot). IsKnown m h) (sym shows_left) (made_known h k);
            loses = subst (λ (m : Snapshot). KeepsOrFreesTreePages None at m) (sym shows_left) (loses_once None at middle (loses_acting at middle db.forest db.forest db.is made.0));
            sound = λ d. left_db;
          };
          same = refl;
          tested = λ no. absurd (no (must (λ n. None) 0));
        }

    -- the store refuses the page
    module _ (q : P) (e : Error) (r : IsRefused e (store old.pages) (store q)) where
      same_rests : Rests (store old.pages) (store q)
      same_rests = rests_only_faults e (store old.pages) (store q) (only e (store old.pages) (store q) r.is)

      same_cause : (slots : ℕ → Option CallInFlight) (given : ℕ) (x : Error) → is_refused_as x (store old.pages) (store q) → cause_of (state_of store meant old slots given) (store old.pages) (store q) (ToCall (OpenTree name)) x
      same_cause slots given error.NoMemory t = tt
      same_cause slots given (error.Io fault) t = (not_there slots given, more (store old.pages).faults (store q).faults (ap (λ (s : Store). s.faults) t))
        where
          more : (x z : ℕ) → z ≡ x + 1 → x < z
          more x z f = omega arith
      same_cause slots given other t = absurd t

      same_refused : WholeRefused store meant old (OpenTree name) e (record old { pages = q })
      same_refused = record {
        maps = [];
        refuses = λ slots given. (may slots given (store q) e (same_cause slots given e r.is), same_state store meant old q (rests_now same_rests) slots given, refl);
        acts = (store old.pages, NoAction, step_refused e (store old.pages) (store q) r.is);
        leaves = leaves_rests store meant old q same_rests;
        same = refl;
        tested = λ no. absurd (no (must (λ n. None) 0));
      }

    -- one of the two actions was refused
    pub opens_stopped : (q : P) (e : Error) → StopsMaking (store old.pages) e (store q) → WholeRefused store meant old (OpenTree name) e (record old { pages = q })
    opens_stopped q e s = elim s.did [
      | inl same ↦ same_refused q e (subst (λ (z : Store). IsRefused e z (store q)) same s.refused)
      | inr leaf ↦ left_refused s.last leaf q e s.refused
    ]

    pub stopped_db : (q : P) (e : Error) → StopsMaking (store old.pages) e (store q) → IsDb store (record old { pages = q })
    stopped_db q e s = (opens_stopped q e s).leaves.sound db

    -- both were done
    module _ (q : P) (does : MakesTree name (store old.pages) (store q)) where
      abbrev next : ℕ
      next = old.trees_given + 1

      abbrev more : DbValue P M
      more = record old { pages = q; trees = put key_cmp name next old.trees; trees_given = next }

      abbrev mid : Snapshot
      mid = middle does.middle does.leaf

      has : HasTree name (store old.pages) (store q)
      unfolding well
      has = tree_made name (store old.pages) (store q) well no_group are no_root does

      own : IsOwn mid db.forest does.leaf.pid does.leaf.version empty_page
      own = (made does.middle does.leaf).2

      live : nodes_at mid does.leaf.pid ≡ Some empty_page
      live = ap (option_map (λ (g : Page). g.node)) own.live

      mid_root : mid.state.roots name ≡ None
      mid_root = no_root

      roots : (u : Rooted (does.leaf.pid ∷ []) None (nodes_at mid) mid.state.roots db.forest name (Some does.leaf.pid)) × (contents (nodes_at mid) u.after name ≡ []) × In does.leaf.pid (u.after.chain (Rattle.tree_laws.specs.Forest.place name 0))
      roots = plant_law (nodes_at mid) mid.state.roots db.forest (made does.middle does.leaf).0.is.formed name does.leaf.pid empty_page mid_root own.stray (record { live = live; lo = refl; hi = refl; next = refl; merging = refl; merging_child = refl; content = refl })

      abbrev last : Snapshot
      last = after_creation mid name does.leaf.pid next

      steps : StepsForest (does.leaf.pid ∷ []) None mid db.forest last roots.0.after
      steps = planted_law mid db.forest name does.leaf.pid next empty_page (made does.middle does.leaf).0.is mid_root (not_given old.trees_given) own.stray refl live roots.0

      keeps : KeepsForest (does.leaf.pid ∷ []) [] mid db.forest last roots.0.after
      keeps = record { is = steps.is; goes = steps.goes; fresh = λ p i. absurd i; sized = roots.0.sized; grows = grows_not mid db.forest }

      shows_last : snapshot_of_db store more ≡ last
      shows_last =
          ap (λ (n : Key → Option ℕ). snapshot_of (store q) n (given_to next)) (numbers_put old.trees name next)
          ∙ ap (λ (g : ℕ → Bool). snapshot_of (store q) (put_name (numbers_of old.trees) name (Some next)) g) (given_more old.trees_given)
          ∙ store_planted (numbers_of old.trees) (given_to old.trees_given) name does.leaf.pid next does.middle (store q) does.is
          ∙ ap (λ (m : Snapshot). after_creation m name does.leaf.pid next) (shows does.middle does.leaf)

      last_known : (h : InFlight) → IsKnown at h → IsKnown last h
      last_known h k = known_kept (made does.middle does.leaf).0.is keeps h (made_known does.middle does.leaf h k) (λ p mine his. not_own db.is (made does.middle does.leaf).0 h k (λ x i. absurd i) p his mine)

      loses : KeepsOrFreesTreePages None at last
      loses = loses_then None at mid last db.forest (made does.middle does.leaf).0.is
          (loses_once None at mid (loses_acting at mid db.forest db.forest db.is (made does.middle does.leaf).0))
          (loses_once None mid last (loses_acting mid last db.forest roots.0.after (made does.middle does.leaf).0.is keeps))

      mark : (store q).mark ≡ (store old.pages).mark
      mark = ap (λ (s : Store). s.mark) does.is ∙ ap (λ (s : Store). s.mark) does.leaf.is.is

      pub more_db : IsDb store more
      more_db = record {
        forest = roots.0.after;
        is = subst (λ (m : Snapshot). HasForest m roots.0.after) (sym shows_last) steps.is;
        sized = subst (λ (m : Snapshot). IsSized (nodes_at m) roots.0.after) (sym shows_last) (roots.0.sized ((made does.middle does.leaf).0.sized db.sized));
        safe = has.grows.extends.safe db.safe;
        ascends = rises_put key_cmp key_total name next old.trees db.ascends;
        default = (db.default.0, ap (λ (f : Key → Option ℕ). f default_name) (numbers_put old.trees name next) ∙ put_name_elsewhere (numbers_of old.trees) name default_name (Some next) (λ e. none_some (sym unknown ∙ ap (numbers_of old.trees) (sym e) ∙ db.default.1)) ∙ db.default.1);
        ungiven = λ n above. db.ungiven n (above_too n above);
        calm = db.calm;
        ids = subst (λ m. old.greatest_id ≤ m) (sym mark) db.ids;
      }
        where
          above_too : (n : ℕ) → old.trees_given + 1 < n → old.trees_given < n
          above_too n h = omega arith

      -- the trees of the state
      merges : ℕ → Option Merge
      merges n = option_map meant (find nat_cmp n old.operators)

      none_here : trees_of (now (store old.pages)) name ≡ None
      unfolding well
      none_here = absent name well no_group are does.leaf.given no_root does.leaf.is

      unmerged : merges next ≡ None
      unfolding merges
      unmerged = ap (option_map meant) (db.ungiven next (omega arith))

      trees_more : (t : Key) → named (numbers_of more.trees t) (trees_of (now (store q)) t) merges ≡ put_name (λ u. named (numbers_of old.trees u) (trees_of (now (store old.pages)) u) merges) name (Some (record { number = next; map = []; merge = None })) t
      trees_more t =
          ap (λ (f : Key → Option ℕ). named (f t) (trees_of (now (store q)) t) merges) (numbers_put old.trees name next)
          ∙ ap (λ (m : Maps). named (put_name (numbers_of old.trees) name (Some next) t) (m t) merges) has.maps
          ∙ go (bytes_eq t name) refl
        where
          go : (b : Bool) → bytes_eq t name ≡ b
              → named (cond (bytes_eq t name) (Some next) (numbers_of old.trees t)) (cond (bytes_eq t name) (or_empty (trees_of (now (store old.pages)) t)) (trees_of (now (store old.pages)) t)) merges
              ≡ cond (bytes_eq t name) (Some (record { number = next; map = []; merge = None })) (named (numbers_of old.trees t) (trees_of (now (store old.pages)) t) merges)
          go true e =
              ap (λ b. named (cond b (Some next) (numbers_of old.trees t)) (cond b (or_empty (trees_of (now (store old.pages)) t)) (trees_of (now (store old.pages)) t)) merges) e
              ∙ ap (λ (o : Option Map). named (Some next) (or_empty o) merges) (ap (trees_of (now (store old.pages))) (same_name t name e) ∙ none_here)
              ∙ ap (λ (o : Option Merge). Some (record { number = next; map = []; merge = o })) unmerged
              ∙ ap (λ b. cond b (Some (record { number = next; map = []; merge = None })) (named (numbers_of old.trees t) (trees_of (now (store old.pages)) t) merges)) (sym e)
          go false e =
              ap (λ b. named (cond b (Some next) (numbers_of old.trees t)) (cond b (or_empty (trees_of (now (store old.pages)) t)) (trees_of (now (store old.pages)) t)) merges) e
              ∙ ap (λ b. cond b (Some (record { number = next; map = []; merge = None })) (named (numbers_of old.trees t) (trees_of (now (store old.pages)) t) merges)) (sym e)

      state_more : (slots : ℕ → Option CallInFlight) (given : ℕ) → state_of store meant more slots given ≡ record (state_of store meant old slots given) { trees = put_name (state_of store meant old slots given).trees name (Some (new_tree (state_of store meant old slots given))); trees_given = next }
      unfolding merges
      state_more slots given = λ i. record {
        name = old.name;
        trees = λ t. trees_more t i;
        queues = queues_of (queue_at old.queues);
        slots = slots;
        is_open = not (calm i);
        greatest_id = old.greatest_id;
        mark = mark i;
        trees_given = next;
        slots_given = given;
        subscribers_given = old.queues.given;
      }
        where
          calm : (now (store q)).in_group ≡ (now (store old.pages)).in_group
          calm = has.again.no_group ∙ sym no_group

      maps_more : (slots : ℕ → Option CallInFlight) (given : ℕ) → planted name (trees_of (now (store old.pages))) ≡ maps_of (state_of store meant more slots given) ∷ []
      maps_more slots given = planted_absent name (trees_of (now (store old.pages))) none_here ∙ ap (λ (m : Maps). m ∷ []) (sym has.maps ∙ sym (maps_are store meant more more_db.forest more_db.is))

      pub opens_new : (t : Tree) → t ≡ record { database = old.name; name = name; number = next } → WholeDecided store meant old (OpenTree name) (told.Tree t) more
      opens_new t is = record {
        maps = planted name (trees_of (now (store old.pages)));
        decides = λ slots given number. record {
          free = must slots given;
          replies = ap told.Tree is ∙ ap (λ (o : Option NamedTree). told.Tree (record { database = old.name; name = name; number = number_opened o (state_of store meant old slots given) })) (sym (not_there slots given));
          is = state_more slots given ∙ ap (λ (o : Option NamedTree). state_opened o (state_of store meant old slots given) name) (sym (not_there slots given));
          added = maps_more slots given ∙ ap (λ (o : Option NamedTree). maps_if (is_none o) (state_of store meant more slots given)) (sym (not_there slots given));
        };
        acts = OneAction (once_made does.leaf.is) (OneAction (once_rooted name (Some does.leaf.pid) does.middle (store q) does.is) NoAction);
        leaves = record {
          extends = has.grows.extends;
          others = λ h k. subst (λ (m : Snapshot). IsKnown m h) (sym shows_last) (last_known h k);
          loses = subst (λ (m : Snapshot). KeepsOrFreesTreePages None at m) (sym shows_last) loses;
          sound = λ d. more_db;
        };
        same = refl;
      }

-- the database is closed
pub opens_closed : {P M : Type 0} (store : P → Store) (meant : M → Merge) (old : DbValue P M) (name : Key) → (now (store old.pages)).in_group ≡ true → WholeRefused store meant old (OpenTree name) error.Closed old
opens_closed store meant old name e = record {
  maps = [];
  refuses = λ slots given. (record { is = subst (λ o. may_refuse_as o (cause_of (state_of store meant old slots given) (store old.pages) (store old.pages) (ToCall (OpenTree name))) error.Closed) (sym (ap (λ b. first_of (first_of (cond (not b) None (Some IsClosed)) None) None) e)) refl }, refl, refl);
  acts = (store old.pages, NoAction, refl);
  leaves = leaves_none store meant old;
  same = refl;
  tested = λ no. refl;
}

-- the same, where the method knows the database by its fields
module _ {P M : Type 0} (store : P → Store) (meant : M → Merge) (inside old : DbValue P M) (same : inside ≡ old) (no_group : (now (store old.pages)).in_group ≡ false) (name : Key) where
  inside_calm : (now (store inside.pages)).in_group ≡ false
  inside_calm = subst (λ (z : DbValue P M). (now (store z.pages)).in_group ≡ false) (sym same) no_group

  -- the list of trees may have got room
  pub short_as : (e : Error) → e ≡ error.NoMemory → (trees : List (Key × ℕ)) → trees ≡ inside.trees → WholeRefused store meant old (OpenTree name) e (record inside { trees = trees })
  short_as e is trees t = subst (λ ts. WholeRefused store meant old (OpenTree name) e (record inside { trees = ts })) (sym t) (subst (λ (z : DbValue P M). WholeRefused store meant old (OpenTree name) e z) (sym same) (opens_short store meant old no_group name e is))

  module _ (db : IsDb store inside) (are : AreGiven (store inside.pages)) (unknown : numbers_of old.trees name ≡ None) where
    inside_unknown : numbers_of inside.trees name ≡ None
    inside_unknown = subst (λ (z : DbValue P M). numbers_of z.trees name ≡ None) (sym same) unknown

    pub no_root_as : (now (store inside.pages)).roots name ≡ None
    no_root_as = no_root store meant inside inside_calm name db are inside_unknown

    pub stopped_as : (q : P) (e : Error) → StopsMaking (store inside.pages) e (store q) → (trees : List (Key × ℕ)) → trees ≡ inside.trees → WholeRefused store meant old (OpenTree name) e (record inside { pages = q; trees = trees })
    stopped_as q e s trees t = subst (λ ts. WholeRefused store meant old (OpenTree name) e (record inside { pages = q; trees = ts })) (sym t)
        (subst (λ (z : DbValue P M). WholeRefused store meant z (OpenTree name) e (record inside { pages = q })) same (opens_stopped store meant inside inside_calm name db are inside_unknown q e s))

    pub stopped_db_as : (q : P) (e : Error) → StopsMaking (store inside.pages) e (store q) → (trees : List (Key × ℕ)) → trees ≡ inside.trees → IsDb store (record inside { pages = q; trees = trees })
    stopped_db_as q e s trees t = subst (λ ts. IsDb store (record inside { pages = q; trees = ts })) (sym t) (stopped_db store meant inside inside_calm name db are inside_unknown q e s)

    module _ (q : P) (does : MakesTree name (store inside.pages) (store q)) (trees : List (Key × ℕ)) (t : trees ≡ put key_cmp name (inside.trees_given + 1) inside.trees) where
      pub new_as : (tree : Tree) → tree ≡ record { database = old.name; name = name; number = inside.trees_given + 1 } → WholeDecided store meant old (OpenTree name) (told.Tree tree) (record inside { pages = q; trees = trees; trees_given = inside.trees_given + 1 })
      new_as tree is = subst (λ ts. WholeDecided store meant old (OpenTree name) (told.Tree tree) (record inside { pages = q; trees = ts; trees_given = inside.trees_given + 1 })) (sym t)
          (subst (λ (z : DbValue P M). WholeDecided store meant z (OpenTree name) (told.Tree tree) (record inside { pages = q; trees = put key_cmp name (inside.trees_given + 1) inside.trees; trees_given = inside.trees_given + 1 })) same
          (opens_new store meant inside inside_calm name db are inside_unknown q does tree (is ∙ ap (λ (z : DbValue P M). record { database = z.name; name = name; number = inside.trees_given + 1 }) (sym same))))

      pub new_db_as : IsDb store (record inside { pages = q; trees = trees; trees_given = inside.trees_given + 1 })
      new_db_as = subst (λ ts. IsDb store (record inside { pages = q; trees = ts; trees_given = inside.trees_given + 1 })) (sym t) (more_db store meant inside inside_calm name db are inside_unknown q does)
