-- What the model says of a whole call, as what it makes of the maps.
use Rattle.std.proofs.Common.{◌≡◌, ◌∙◌, ℕ, ◌+◌, Bool, true, false, cond, List, [], ◌∷◌, Option, Some, None, option_map, is_some, All, sym, refl, ap, subst}
use Rattle.std.proofs.lemmas.List.Elements.{All-nil, All-cons, All-head, All-tail}
use Rattle.std.proofs.Math.Path.{fun_ext}
use Rattle.std.specs.Str.{bytes_eq}
use Rattle.sled_nodes.specs.Order.{Key}
use Rattle.sled_store.specs.Update.{put_name}
use Rattle.sled_store.specs.theory.Facts.{same_name}
use Rattle.sled_model.specs.Maps.{Map, Maps, IsLeast, IsGreatest}
use Rattle.sled_model.specs.Answer.{Answer, answer_of, decision_of, map_after}
use Rattle.sled_model.specs.Groups.{Write, writes_of, call_with, after_write_on, after_writes}
use Rattle.sled_model.specs.Imports.{Part, OpensName, Puts, does_part_as, DoesParts, NoPart, OnePart}
use Rattle.sled_model.specs.State.{State, NamedTree, maps_of, after_decision_on}
use Rattle.sled_model.specs.Transition.{Configuration, does_of}
use Rattle.sled_batch.specs.Batch.{Writes}
use Rattle.sled_model.specs.Refusal.{is_number}
use Rattle.sled_model.specs.Whole.{number_opened, Pops, Clears, RemovesLeast, RemovesNone, RemovesOne, after_pop, state_opened, state_dropped}
use Rattle.sled_model.specs.declared.call.Call.TheVariants.{Remove, Insert}
use Rattle.sled_model.specs.declared.call.Whole.{Whole}
use Rattle.sled_model.specs.declared.call.Whole.TheVariants.{Flush, PopMin, PopMax, Clear, Group, OpenTree, DropTree, GenerateId, Import, Watch, Next, Unsubscribe}
use Rattle.sled_model.specs.declared.tree.Tree.{Tree}
use Rattle.sled_model.specs.declared.reply.Reply.{Reply}
use Rattle.sled_model.specs.declared.reply.Reply.TheVariants.{Flag, Done}
use Rattle.sled_model.proofs.Shapes.{after_write, answer_of_write}
use Rattle.machine_shared.specs.Made.{whole_value}
use Rattle.machine_shared.proofs.WholeTests.{BatchPasses, own, pass_each}
use Rattle.machine_shared.specs.WholeMade.{HasMap, map_with, map_popped, MakesPop, MakesClear, maps_with_write, maps_with_writes, maps_opened, TakesLeast, TakesNone, TakesOne, makes_part_as, MakesParts, MakesNone, MakesOne, makes_whole_as}

-- to put a map where it stands changes nothing
pub put_same : (maps : Maps) (name : Key) (o : Option Map) → maps name ≡ o → put_name maps name o ≡ maps
put_same maps name o there = fun_ext (λ q. go q (bytes_eq q name) refl)
  where
    go : (q : Key) (b : Bool) → bytes_eq q name ≡ b → cond b o (maps q) ≡ maps q
    go q true e = sym there ∙ ap maps (sym (same_name q name e))
    go q false e = refl

put_twice : (maps : Maps) (name : Key) (x y : Option Map) → put_name (put_name maps name x) name y ≡ put_name maps name y
put_twice maps name x y = fun_ext (λ q. go (bytes_eq q name) (maps q))
  where
    go : (b : Bool) (o : Option Map) → cond b y (cond b x o) ≡ cond b y o
    go true o = refl
    go false o = refl

-- the maps where a name has another tree, or none
put_maps : (trees : Key → Option NamedTree) (name : Key) (t : Option NamedTree) (q : Key)
    → option_map (λ (t : NamedTree). t.map) (put_name trees name t q) ≡ put_name (λ p. option_map (λ (t : NamedTree). t.map) (trees p)) name (option_map (λ (t : NamedTree). t.map) t) q
put_maps trees name t q = go (bytes_eq q name) t (trees q)
  where
    go : (b : Bool) (t o : Option NamedTree) → option_map (λ (t : NamedTree). t.map) (cond b t o) ≡ cond b (option_map (λ (t : NamedTree). t.map) t) (option_map (λ (t : NamedTree). t.map) o)
    go true t o = refl
    go false t o = refl

pub after_maps : (s : State) (name : Key) (t : NamedTree) (a : Answer) → maps_of (after_decision_on s name t a) ≡ put_name (maps_of s) name (Some a.map)
after_maps s name t a = fun_ext (λ q. put_maps s.trees name (Some (record t { map = a.map })) q)

pub there_map : (s : State) (name : Key) (t : NamedTree) → s.trees name ≡ Some t → maps_of s name ≡ Some t.map
there_map s name t e = ap (λ o. option_map (λ (t : NamedTree). t.map) o) e

-- pops
popped : (s : State) (name : Key) (t : NamedTree) → s.trees name ≡ Some t → (found : Option (Key × Key)) → maps_of (after_pop s name t found) ≡ put_name (maps_of s) name (Some (map_popped found t.map))
popped s name t e None = sym (put_same (maps_of s) name (Some t.map) (there_map s name t e))
popped s name t e (Some pair) = after_maps s name t (answer_of t.merge (Remove pair.0) t.map)

pop : (is_end : Map → Option (Key × Key) → Type 0) (a : State) (whole : Whole) (tree : Tree) (reply : Reply) (b : State) (maps : List Maps) → Pops is_end a whole tree reply b maps → MakesPop is_end (maps_of a) tree reply (maps_of b)
pop is_end a whole tree reply b maps p = record {
  map = p.named.map;
  there = there_map a tree.name p.named p.there;
  found = p.found;
  ends = p.ends;
  replies = p.replies;
  is = ap maps_of p.is ∙ popped a tree.name p.named p.there p.found;
}

-- clears
pub removes : {tree : Tree} {a b : State} {n : ℕ} {maps : List Maps} → RemovesLeast tree a n b maps → TakesLeast tree.name (maps_of a) n (maps_of b)
removes RemovesNone = TakesNone
removes {tree = tree} {b = z} (RemovesOne {a = a} {n = n} named pair rest there first more) = TakesOne pair rest (there_map a tree.name named there ∙ ap Some first)
    (subst (λ m. TakesLeast tree.name m n (maps_of z)) (after_maps a tree.name named (answer_of named.merge (Remove pair.0) named.map) ∙ ap (λ m. put_name (maps_of a) tree.name (Some (map_with (Remove pair.0) m))) first) (removes more))

pub removes_open : {tree : Tree} {a b : State} {n : ℕ} {maps : List Maps} → RemovesLeast tree a n b maps → b.is_open ≡ a.is_open
removes_open RemovesNone = refl
removes_open (RemovesOne named pair rest there first more) = removes_open more

emptied : {name : Key} {a b : Maps} {n : ℕ} → TakesLeast name a n b → b name ≡ Some [] → (map : Map) × (a name ≡ Some map) × (b ≡ put_name a name (Some []))
emptied {name = name} (TakesNone {a = a}) e = ([], e, sym (put_same a name (Some []) e))
emptied {name = name} (TakesOne {a = a} pair rest there more) e = (pair ∷ rest, there, (emptied more e).2 ∙ put_twice a name _ (Some []))

clear : (a : State) (tree : Tree) (reply : Reply) (b : State) (maps : List Maps) → reply ≡ Done → Clears a tree b maps → MakesClear (maps_of a) tree reply (maps_of b)
clear a tree reply b maps done c = let r = emptied (removes c.removes) (there_map b tree.name c.named c.there ∙ ap Some c.none) in record { map = r.0; there = r.1; replies = done; is = r.2 }

-- groups
write_map : (t : NamedTree) (key : Key) (value : Option Key) → (answer_of t.merge (call_with key value) t.map).map ≡ map_with (call_with key value) t.map
write_map t key None = refl
write_map t key (Some value) = refl

write_on : (o : Option NamedTree) (w : Write) (s : State) → maps_of (after_write_on o w s) ≡ maps_with_write (option_map (λ (t : NamedTree). t.map) o) w (maps_of s)
write_on None w s = refl
write_on (Some t) w s = after_maps s w.tree.name t (answer_of_write t w) ∙ ap (λ m. put_name (maps_of s) w.tree.name (Some m)) (write_map t w.key w.value)

pub writes : (ws : List Write) (s : State) → maps_of (after_writes ws s) ≡ maps_with_writes ws (maps_of s)
writes [] s = refl
writes (w ∷ ws) s = writes ws (after_write w s) ∙ ap (maps_with_writes ws) (write_on (s.trees w.tree.name) w s)

-- names
pub opened : (o : Option NamedTree) (s : State) (name : Key) → maps_of (state_opened o s name) ≡ maps_opened (option_map (λ (t : NamedTree). t.map) o) name (maps_of s)
opened (Some t) s name = refl
opened None s name = fun_ext (λ q. put_maps s.trees name (Some (record { number = s.trees_given + 1; map = []; merge = None })) q)

opened_open : (o : Option NamedTree) (s : State) (name : Key) → (state_opened o s name).is_open ≡ s.is_open
opened_open (Some t) s name = refl
opened_open None s name = refl

dropped : (o : Option NamedTree) (s : State) (name : Key) → s.trees name ≡ o → maps_of (state_dropped o s name) ≡ put_name (maps_of s) name None
dropped (Some t) s name e = fun_ext (λ q. put_maps s.trees name None q)
dropped None s name e = sym (put_same (maps_of s) name None (ap (λ o. option_map (λ (t : NamedTree). t.map) o) e))

has_number : (o : Option NamedTree) (n : ℕ) → is_number n o ≡ true → is_some (option_map (λ (t : NamedTree). t.map) o) ≡ true
has_number None n e = e
has_number (Some t) n e = refl

-- the trees of a group that passes the tests have maps
pub have_maps : (s : State) (bs : List (Tree × Writes)) → All (BatchPasses s) bs → All (HasMap (maps_of s)) bs
have_maps s [] h = All-nil (HasMap (maps_of s))
have_maps s (b ∷ bs) h = All-cons (HasMap (maps_of s)) b bs (has_number (s.trees b.0.name) b.0.number (own s b.0 (All-head (BatchPasses s) b bs h)).1) (have_maps s bs (All-tail (BatchPasses s) b bs h))

has_map : (o : Option NamedTree) → is_some o ≡ is_some (option_map (λ (t : NamedTree). t.map) o)
has_map None = refl
has_map (Some t) = refl

-- imports
pub part : (a : State) (p : Part) (b : State) (maps : List Maps) → does_part_as a p b maps → makes_part_as (maps_of a) p (maps_of b)
part a (OpensName name) b maps d = ap maps_of d.0 ∙ opened (a.trees name) a name
part a (Puts name key value) b maps d = record {
  map = d.named.map;
  there = there_map a name d.named d.there;
  absent = d.absent;
  is = ap maps_of d.is ∙ after_maps a name d.named (answer_of d.named.merge (Insert key value) d.named.map)
      ∙ ap (λ o. put_name (maps_of a) name (Some (map_after (decision_of d.named.merge (Insert key value) o).effect key d.named.map))) d.absent;
}

part_open : (a : State) (p : Part) (b : State) (maps : List Maps) → does_part_as a p b maps → b.is_open ≡ a.is_open
part_open a (OpensName name) b maps d = ap (λ (s : State). s.is_open) d.0 ∙ opened_open (a.trees name) a name
part_open a (Puts name key value) b maps d = ap (λ (s : State). s.is_open) d.is

pub parts : {a b : State} {ps : List Part} {maps : List Maps} → DoesParts a ps b maps → MakesParts (maps_of a) ps (maps_of b)
parts NoPart = MakesNone
parts (OnePart {a = a} {m = m} {part = p} added one more) = MakesOne (part a p m added one) (parts more)

pub parts_open : {a b : State} {ps : List Part} {maps : List Maps} → DoesParts a ps b maps → b.is_open ≡ a.is_open
parts_open NoPart = refl
parts_open (OnePart {a = a} {m = m} {part = p} added one more) = parts_open more ∙ part_open a p m added one

writes_open : (ws : List Write) (s : State) → (after_writes ws s).is_open ≡ s.is_open
writes_open [] s = refl
writes_open (w ∷ ws) s = writes_open ws (after_write w s) ∙ go (s.trees w.tree.name)
  where
    go : (o : Option NamedTree) → (after_write_on o w s).is_open ≡ s.is_open
    go None = refl
    go (Some t) = refl

popped_open : (s : State) (name : Key) (t : NamedTree) (found : Option (Key × Key)) → (after_pop s name t found).is_open ≡ s.is_open
popped_open s name t None = refl
popped_open s name t (Some pair) = refl

dropped_open : (o : Option NamedTree) (s : State) (name : Key) → (state_dropped o s name).is_open ≡ s.is_open
dropped_open (Some t) s name = refl
dropped_open None s name = refl

open_of : (a b : State) → b ≡ a → b.is_open ≡ a.is_open
open_of a b e = ap (λ (s : State). s.is_open) e

-- A whole call that is decided leaves a database open that was
pub stays_open : (a : Configuration) (w : Whole) (reply : Reply) (b : State) (maps : List Maps) → (does_of w).decides a reply b maps → b.is_open ≡ a.state.is_open
stays_open a Flush reply b maps t = open_of _ b t.2
stays_open a (PopMin tree) reply b maps t = open_of _ b t.is ∙ popped_open a.state tree.name t.named t.found
stays_open a (PopMax tree) reply b maps t = open_of _ b t.is ∙ popped_open a.state tree.name t.named t.found
stays_open a (Clear tree) reply b maps t = removes_open t.1.removes
stays_open a (Group batches) reply b maps t = open_of _ b t.is ∙ writes_open (writes_of batches.items) a.state
stays_open a (OpenTree name) reply b maps t = open_of _ b t.is ∙ opened_open (a.state.trees name) a.state name
stays_open a (DropTree name) reply b maps t = open_of _ b t.is ∙ dropped_open (a.state.trees name) a.state name
stays_open a GenerateId reply b maps t = open_of _ b t.is
stays_open a (Import collections) reply b maps t = parts_open t.1.does
stays_open a (Watch tree prefix) reply b maps t = open_of _ b t.2.is
stays_open a (Next subscriber) reply b maps t = open_of _ b t.2.is
stays_open a (Unsubscribe subscriber) reply b maps t = open_of _ b t.1

-- the reply that is noted: of what a subscriber was told `Done`
abbrev pub noted_reply : Whole → Reply → Reply
noted_reply (Next subscriber) reply = Done
noted_reply w reply = reply

-- .. and makes of the maps what its entry tells
pub makes : (a : Configuration) (w : Whole) (reply : Reply) (b : State) (maps : List Maps) → (does_of w).decides a reply b maps → makes_whole_as (maps_of a.state) (whole_value w) (noted_reply w reply) (maps_of b)
makes a Flush reply b maps t = ((a.flush_number, t.1), ap maps_of t.2)
makes a (PopMin tree) reply b maps t = pop IsLeast a.state (PopMin tree) tree reply b maps t
makes a (PopMax tree) reply b maps t = pop IsGreatest a.state (PopMax tree) tree reply b maps t
makes a (Clear tree) reply b maps t = clear a.state tree reply b maps t.0 t.1
makes a (Group batches) reply b maps t = (t.replies, have_maps a.state batches.items (pass_each a.state batches.items t.free), ap maps_of t.is ∙ writes (writes_of batches.items) a.state)
makes a (OpenTree name) reply b maps t = ((a.state.name, number_opened (a.state.trees name) a.state, t.replies), ap maps_of t.is ∙ opened (a.state.trees name) a.state name)
makes a (DropTree name) reply b maps t = (t.off, t.replies ∙ ap Flag (has_map (a.state.trees name)), ap maps_of t.is ∙ dropped (a.state.trees name) a.state name refl)
makes a GenerateId reply b maps t = ((a.state.greatest_id + 1, t.replies), ap maps_of t.is)
makes a (Import collections) reply b maps t = (t.1.trees, t.0, parts t.1.does)
makes a (Watch tree prefix) reply b maps t = ((t.0, t.1), ap maps_of t.2.is)
makes a (Next subscriber) reply b maps t = (refl, ap maps_of t.2.is)
makes a (Unsubscribe subscriber) reply b maps t = (t.0, ap maps_of t.1)
