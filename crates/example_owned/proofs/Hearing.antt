-- What a subscriber hears of calls of its owner, one after the other.
use Rattle.std.proofs.Common.{◌≡◌, ◌∙◌, ℕ, cond, nat_eq, List, [], ◌∷◌, ◌++◌, append-nil, Option, sym, refl, ap, subst}
use Rattle.std.specs.Option.{option_to_list}
use Rattle.std.proofs.lemmas.Bool.{eq-eqb}
use Rattle.sled_nodes.specs.Order.{Key}
use Rattle.sled_store.specs.Store.{Store}
use Rattle.sled_model.specs.Maps.{Merge}
use Rattle.sled_model.specs.Queues.{backlog_in, waiting_in}
use Rattle.sled_model.specs.declared.event.Next.{Next}
use Rattle.sled_model.specs.declared.tree.Tree.{Tree}
use Rattle.sled_queues.specs.Copies.{after_events, events_told, TellsEvents}
use Rattle.sled_queues.specs.Events.{Turn, Takes, brought}
use Rattle.sled_queues.specs.Hears.{CountsAll, Hears}
use Rattle.sled.specs.Values.{DbValue}
use Rattle.sled.specs.Watch.{TakesFromDb}
use Rattle.machine_alone.specs.Hears.{queues_at, IsCopyOfTree}
use Rattle.machine_shared.specs.Made.{MadeValue}
use Rattle.call_laws.specs.Calls.{NoCall, OneCall, Called, ToldNext, alone}
use Rattle.call_laws.specs.Hears.{IsKept, KeepsTree, turns_of_calls, told_to, HearsLaw}
use Rattle.example_owned.specs.Heard.{insert_brings, both_brings, HearsWrites, FollowsTree}
use Rattle.example_owned.specs.Owned.{Goes, IsInsert, IsBoth}
use Rattle.example_owned.specs.declared.owned.Wrote.{Wrote}
use Rattle.example_owned.specs.theory.Owned.{Tells, GoesQuietly}

kept_after : (n : ℕ) (xs ys : List MadeValue) → IsKept n xs → IsKept n ys → IsKept n (xs ++ ys)
kept_after n [] ys k l = l
kept_after n (x ∷ xs) ys k l = (k.0, kept_after n xs ys k.1 l)

keeps_after : (name : Key) (xs ys : List MadeValue) → KeepsTree name xs → KeepsTree name ys → KeepsTree name (xs ++ ys)
keeps_after name [] ys k l = l
keeps_after name (x ∷ xs) ys k l = (k.0, keeps_after name xs ys k.1 l)

module _ {P M : Type 0} (store : P → Store) (number : P → ℕ) (meant : M → Merge) (law : HearsLaw store number meant) where
  next : (old new : DbValue P M) (n : ℕ) (told : Option Next) → TakesFromDb store meant old n told new → Tells store number meant old (Takes n ∷ []) (λ k. cond (nat_eq n k) (option_to_list told) []) new
  next old new n told d = record {
    made = _;
    calls = OneCall (Called (ToldNext d)) NoCall;
    turns_are = refl;
    told_are = λ k. append-nil (cond (nat_eq n k) (option_to_list told) []);
    kept = λ k. (refl, tt);
    keeps = λ name. (refl, tt);
  }

  after : (a m b : DbValue P M) (ts us : List Turn) (told more : ℕ → List Next) → Tells store number meant a ts told m → Tells store number meant m us more b → Tells store number meant a (ts ++ us) (λ n. told n ++ more n) b
  after a m b ts us told more x y =
      let k = law.joined (alone a) (alone m) (alone b) x.made y.made x.calls y.calls in
      record {
        made = x.made ++ y.made;
        calls = k.0;
        turns_are = k.1.turns_are ∙ ap (λ l. l ++ turns_of_calls store number meant y.calls) x.turns_are ∙ ap (λ l. ts ++ l) y.turns_are;
        told_are = λ n. k.1.told n ∙ ap (λ l. l ++ told_to store number meant n y.calls) (x.told_are n) ∙ ap (λ l. told n ++ l) (y.told_are n);
        kept = λ n. kept_after n x.made y.made (x.kept n) (y.kept n);
        keeps = λ name. keeps_after name x.made y.made (x.keeps name) (y.keeps name);
      }

  goes : {is_made : List MadeValue → Type 0} {brings : List Turn → Type 0} (a b : DbValue P M) → GoesQuietly store number meant a is_made brings b → Goes store number meant a is_made b
  goes a b x = record { made = x.tells.made; calls = x.tells.calls; is = x.is }

  module _ (tree : Tree) (n : ℕ) (key first second one other : Key) (wrote : Wrote) (told : Option Next) (a b c d e : DbValue P M)
      (i : GoesQuietly store number meant a (IsInsert tree key first wrote.insert) (insert_brings store number meant a tree key first wrote.insert) b)
      (g : GoesQuietly store number meant b (IsBoth tree one other first wrote.both) (both_brings store number meant b tree one other first wrote.both) c)
      (l : GoesQuietly store number meant c (IsInsert tree key second wrote.later) (insert_brings store number meant c tree key second wrote.later) d) (t : TakesFromDb store meant d n told e) where
    abbrev turns : List Turn
    turns = i.turns ++ (g.turns ++ (l.turns ++ Takes n ∷ []))

    abbrev said : ℕ → List Next
    said k = cond (nat_eq n k) (option_to_list told) []

    all : Tells store number meant a turns said e
    all =
        after a b e i.turns (g.turns ++ (l.turns ++ Takes n ∷ [])) (λ k. []) said i.tells
        (after b c e g.turns (l.turns ++ Takes n ∷ []) (λ k. []) said g.tells (after c d e l.turns (Takes n ∷ []) (λ k. []) said l.tells (next d e n told t)))

    its : told_to store number meant n all.calls ≡ option_to_list told
    its = all.told_are n ∙ ap (λ b. cond b (option_to_list told) []) (eq-eqb n n refl)

    pub hears_writes : HearsWrites store number meant a tree n key first second one other wrote told e
    hears_writes = record {
      middle = b;
      last = c;
      end = d;
      inserted = goes a b i;
      wrote_both = goes b c g;
      inserted_again = goes c d l;
      asked = t;
      insert = i.turns;
      both = g.turns;
      later = l.turns;
      inserts = i.brought;
      writes_both = g.brought;
      inserts_later = l.brought;
      hears = λ q here counts es holds.
          subst (λ ts. Hears (option_to_list told) (es ++ brought q ts) (backlog_in (queues_at (alone e) n))) all.turns_are
          (subst (λ ns. Hears ns (es ++ brought q (turns_of_calls store number meant all.calls)) (backlog_in (queues_at (alone e) n))) its
          (law.hears (alone a) (alone e) all.made all.calls n q here (all.kept n) (subst (λ ts. CountsAll n ts (queues_at (alone a))) (sym all.turns_are) counts) es holds));
    }

    pub follows_tree : FollowsTree store meant a n told e
    follows_tree = record {
      is = λ db is_open q here events none name copy was.
          subst (λ ns. IsCopyOfTree store meant (alone e) name q.tree q.prefix (after_events (waiting_in (queues_at (alone e) n)) (after_events (events_told ns) copy))) its
          (law.follows (alone a) (alone e) all.made all.calls db is_open n q here (all.kept n) name (all.keeps name) (subst TellsEvents (sym its) events) none copy was);
    }
