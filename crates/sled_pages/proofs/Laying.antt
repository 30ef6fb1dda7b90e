-- An image laid down page by page.
use Rattle.std.proofs.Common.{◌≡◌, ℕ, ◌+◌, ◌-◌, ◌^◌, ◌<◌, ◌≤◌, Bool, true, false, cond, ◌&&◌, nat_eq, nat_le, nat_lt, List, [], ◌∷◌, ◌++◌, Option, Some, None, refl, sym, ap, ◌∙◌, arith, length-append}
use Rattle.std.specs.Option.{option_map}
use Rattle.std.specs.List.{find, list_all}
use Rattle.std.specs.Ordering.{nat_cmp}
use Rattle.std.specs.Cmp.{unsigned_ties}
use Rattle.std.specs.BTreeMap.{BTreeMap, get, is_at}
use Rattle.std.specs.Str.{bytes_eq}
use Rattle.std.proofs.lemmas.Bool.Decides.{nat_tests}
use Rattle.std.proofs.lemmas.List.{reverse-append}
use mathlib.Core.List.{reverse}
use Rattle.sled_nodes.proofs.Basics.{first_true, second_true, and_true}
use Rattle.sled_nodes.proofs.All.{all_push, all_weaker, le_is, le_later}
use Rattle.sled_nodes.specs.Order.{Key}
use Rattle.sled_nodes.specs.Node.{pointers}
use Rattle.sled_nodes.specs.Image.{last_of, node_in, root_in, all_of, all_named, all_numbers}
use Rattle.sled_nodes.specs.declared.node.Node.{Node}
use Rattle.sled_store.specs.Update.{put_name}
use Rattle.sled_store.specs.Roots.{roots_of}
use Rattle.sled_store.proofs.Roots.{same_test}
use Rattle.sled_store.specs.declared.page.Page.{Page}
use Rattle.sled_pages.specs.declared.memory.slots.Slot.{Slot}
use Rattle.sled_pages.specs.Parts.{node_of, alone}
use Rattle.sled_pages.specs.theory.Held.{Holds}
use Rattle.sled_pages.specs.Slots.{slot_in, given_in}
use Rattle.sled_pages.specs.Joined.{joined}
use Rattle.sled_pages.specs.Table.{slot_given, page_of}
use Rattle.sled_pages.specs.theory.Table.{table}
use Rattle.sled_pages.specs.Memory.{meaning}
use Rattle.sled_pages.specs.declared.memory.undo.Undo.{Undo}
use Rattle.sled_pages.specs.Image.{IsImage}
use Rattle.sled_pages.proofs.Kept.{slot_later}

-- one entry more
pub last_more : {K X : Type 0} (passes : K → Bool) (es : List (K × X)) (k : K) (x : X) → last_of passes (es ++ (k, x) ∷ []) ≡ cond (passes k) (Some x) (last_of passes es)
last_more passes es k x =
    ap (λ ys. option_map (λ e. e.1) (find (λ e. passes e.0) ys)) (reverse-append es ((k, x) ∷ []))
    ∙ elim (passes k) as (λ b. option_map (λ e. e.1) (cond b (Some (k, x)) (find (λ e. passes e.0) (reverse es))) ≡ cond b (Some x) (last_of passes es)) [ true ↦ refl | false ↦ refl ]

at_next : (n v : ℕ) → v ≡ n → nat_lt v (n + 1) ≡ true
at_next n v e = grind (arith, nat_tests)

apart : (k p : ℕ) → k < p → nat_eq k p ≡ false
apart k p h = grind (arith, nat_tests)

-- one root more
pub root_more : (list : List (Key × ℕ)) (roots new : Key → Option ℕ) (name : Key) (pid : ℕ) → new ≡ put_name roots name (Some pid) → ((q : Key) → roots q ≡ root_in list q) → (q : Key) → new q ≡ root_in (list ++ (name, pid) ∷ []) q
root_more list roots new name pid e h q =
    ap (λ f. f q) e
    ∙ (ap (λ t. cond t (Some pid) (roots q)) (same_test name q)
    ∙ (ap (λ o. cond (bytes_eq name q) (Some pid) o) (h q) ∙ sym (last_more (λ k. bytes_eq k q) list name pid)))

named_later : (a b : ℕ) (n : Node) → a ≤ b → all_named (λ p. nat_le p a) n ≡ true → all_named (λ p. nat_le p b) n ≡ true
named_later a b n h e =
    let r = second_true (all_of (λ p. nat_le p a) n.next) _ e in
    and_true _ _ (of_later n.next (first_true _ _ e)) (and_true _ _ (of_later n.merging_child (first_true _ _ r)) (all_weaker (λ x. nat_le x.1 a) (λ x. nat_le x.1 b) (λ x. le_later x.1 a b h) (pointers n.content) (second_true (all_of (λ p. nat_le p a) n.merging_child) _ r)))
  where
    of_later : (o : Option ℕ) → all_of (λ p. nat_le p a) o ≡ true → all_of (λ p. nat_le p b) o ≡ true
    of_later None f = refl
    of_later (Some p) f = le_later p a b h f

pub numbers_more : (image : List (ℕ × Node)) (a b pid : ℕ) (node : Node) → a ≤ b → pid ≤ b → all_named (λ p. nat_le p b) node ≡ true → all_numbers (λ p. nat_le p a) image ≡ true → all_numbers (λ p. nat_le p b) (image ++ (pid, node) ∷ []) ≡ true
numbers_more image a b pid node h k n e = all_push (λ x. nat_le x.0 b && all_named (λ p. nat_le p b) x.1) image (pid, node)
    (all_weaker (λ x. nat_le x.0 a && all_named (λ p. nat_le p a) x.1) (λ x. nat_le x.0 b && all_named (λ p. nat_le p b) x.1) (λ x f. and_true _ _ (le_later x.0 a b h (first_true _ _ f)) (named_later a b x.1 h (second_true (nat_le x.0 a) _ f))) image e)
    (and_true _ _ (le_is pid b k) n)

-- what a node names, from its parts
pub node_names : (n : Node) (a b c : ℕ) (o : Option ℕ) → a ≤ b → b ≤ c → all_of (λ p. nat_le p a) n.next ≡ true → all_of (λ p. nat_le p b) n.merging_child ≡ true → list_all (λ e. nat_le e.1 c) (pointers n.content) ≡ true → all_named (λ p. nat_le p c) n ≡ true
node_names n a b c o h k next child rest = and_true _ _ (of_later a c (omega arith) n.next next) (and_true _ _ (of_later b c k n.merging_child child) rest)
  where
    of_later : (a b : ℕ) → a ≤ b → (o : Option ℕ) → all_of (λ p. nat_le p a) o ≡ true → all_of (λ p. nat_le p b) o ≡ true
    of_later a b h None f = refl
    of_later a b h (Some p) f = le_later p a b h f

-- numbers up to the last one of an image count as given
up_to_given : (last p own : ℕ) → nat_le p last ≡ true → given_in true last own p ≡ true
up_to_given last p own e = ap (λ b. cond b true (nat_lt (p - last - 1) own)) e

pub least_given : (last least p own : ℕ) → least ≤ last → p ≤ least → given_in true last own p ≡ true
least_given last least p own h k = up_to_given last p own (le_is p last (omega arith))

pub numbers_given : (image : List (ℕ × Node)) (last own : ℕ) → all_numbers (λ p. nat_le p last) image ≡ true → all_numbers (given_in true last own) image ≡ true
numbers_given image last own e = all_weaker (λ x. nat_le x.0 last && all_named (λ p. nat_le p last) x.1) (λ x. given_in true last own x.0 && all_named (given_in true last own) x.1)
    (λ x f. and_true _ _ (up_to_given last x.0 own (first_true _ _ f)) (named x.1 (second_true (nat_le x.0 last) _ f))) image e
  where
    of_given : (o : Option ℕ) → all_of (λ p. nat_le p last) o ≡ true → all_of (given_in true last own) o ≡ true
    of_given None f = refl
    of_given (Some p) f = up_to_given last p own f

    named : (n : Node) → all_named (λ p. nat_le p last) n ≡ true → all_named (given_in true last own) n ≡ true
    named n f =
        let r = second_true (all_of (λ p. nat_le p last) n.next) _ f in
        and_true _ _ (of_given n.next (first_true _ _ f)) (and_true _ _ (of_given n.merging_child (first_true _ _ r)) (all_weaker (λ x. nat_le x.1 last) (λ x. given_in true last own x.1) (λ x. up_to_given last x.1 own) (pointers n.content) (second_true (all_of (λ p. nat_le p last) n.merging_child) _ r)))

pub roots_up_to : (roots : List (Key × ℕ)) (least : ℕ) (given : ℕ → Bool) → ((p : ℕ) → p ≤ least → given p ≡ true) → list_all (λ r. nat_le r.1 least) roots ≡ true → list_all (λ r. given r.1) roots ≡ true
roots_up_to roots least given h e = all_weaker (λ r. nat_le r.1 least) (λ r. given r.1) (λ r f. h r.1 (le_of r.1 least f)) roots e
  where
    le_of : (a b : ℕ) → nat_le a b ≡ true → a ≤ b
    le_of a b f = grind (arith, nat_tests)

-- one page more
pub holds_more : (image : List (ℕ × Node)) (m n : BTreeMap ℕ (Option Slot)) (least last last' next k pid : ℕ) (slot : Slot) (node : Node) → k ≡ pid → slot.version ≡ next → node_of slot.page ≡ node → slot.page ≡ alone node → last ≤ last' → k ≤ last' → last' < 2 ^ 64 → all_named (λ p. nat_le p last') (node_of slot.page) ≡ true →
    ((q : ℕ) → get nat_cmp n q ≡ cond (is_at (nat_cmp k) q) (Some (Some slot)) (get nat_cmp m q)) → Holds image m least last next → Holds (image ++ (pid, node) ∷ []) n least last' (next + 1)
holds_more image m n least last last' next k pid slot node same v d bare a b f names up h = rw (← same, ← d) (
    let bare : slot.page ≡ alone (node_of slot.page) = bare ∙ ap alone (sym d) in
    let test : (p : ℕ) → get nat_cmp n p ≡ cond (nat_eq k p) (Some (Some slot)) (get nat_cmp m p) = λ p. up p ∙ ap (λ t. cond t (Some (Some slot)) (get nat_cmp m p)) (sym (unsigned_ties k p)) in
    let more : (p : ℕ) → node_in (image ++ (k, node_of slot.page) ∷ []) p ≡ cond (nat_eq k p) (Some (node_of slot.page)) (node_in image p) = λ p. last_more (λ q. nat_eq q p) image k (node_of slot.page) in
    record {
      nodes = λ p. ap (λ o. option_map (λ (x : Slot). node_of x.page) (joined o)) (test p)
          ∙ (elim (nat_eq k p) as (λ t. option_map (λ (x : Slot). node_of x.page) (joined (cond t (Some (Some slot)) (get nat_cmp m p))) ≡ cond t (Some (node_of slot.page)) (node_in image p)) [ true ↦ refl | false ↦ h.nodes p ]
          ∙ sym (more p));
      parts = λ p. ap (λ o. option_map (λ (x : Slot). x.page) (joined o)) (test p)
          ∙ (elim (nat_eq k p) as (λ t. option_map (λ (x : Slot). x.page) (joined (cond t (Some (Some slot)) (get nat_cmp m p))) ≡ option_map alone (cond t (Some (node_of slot.page)) (node_in image p))) [ true ↦ ap (λ y. Some y) bare | false ↦ h.parts p ]
          ∙ ap (option_map alone) (sym (more p)));
      numbers = numbers_more image last last' k (node_of slot.page) a b names h.numbers;
      bounded = λ p l. more p ∙ (ap (λ t. cond t (Some (node_of slot.page)) (node_in image p)) (apart k p (omega arith)) ∙ h.bounded p (omega arith));
      below = λ p. ap (λ o. slot_given (next + 1) (joined o)) (test p)
          ∙ elim (nat_eq k p) as (λ t. slot_given (next + 1) (joined (cond t (Some (Some slot)) (get nat_cmp m p))) ≡ true) [ true ↦ at_next next slot.version v | false ↦ slot_later next (joined (get nat_cmp m p)) (h.below p) ];
      fits = f;
      least_is = let l = h.least_is in omega arith;
      counted = ap (λ c. c + 1) h.counted ∙ sym (simp length-append);
    })

not_above : (last p : ℕ) → nat_le p last ≡ false → last < p
not_above last p e = grind (arith, nat_tests)

-- all of it
pub laid : (image : List (ℕ × Node)) (foreign : BTreeMap ℕ (Option Slot)) (own : ℕ → Option Slot) (least last next p : ℕ) → own ≡ (λ _. None) → Holds image foreign least last next → option_map (λ (x : Slot). node_of x.page) (slot_in last foreign own p) ≡ node_in image p
laid image foreign own least last next p o h = rw o (
    elim (nat_le p last) as (λ b. nat_le p last ≡ b → option_map (λ (x : Slot). node_of x.page) (cond b (joined (get nat_cmp foreign p)) None) ≡ node_in image p) [
      | true ↦ λ e. h.nodes p
      | false ↦ λ e. sym (h.bounded p (not_above last p e))
    ] refl)

pub laid_parts : (image : List (ℕ × Node)) (foreign : BTreeMap ℕ (Option Slot)) (own : ℕ → Option Slot) (least last next p : ℕ) → own ≡ (λ _. None) → Holds image foreign least last next → option_map (λ (x : Slot). x.page) (slot_in last foreign own p) ≡ option_map alone (node_in image p)
laid_parts image foreign own least last next p o h = rw o (
    elim (nat_le p last) as (λ b. nat_le p last ≡ b → option_map (λ (x : Slot). x.page) (cond b (joined (get nat_cmp foreign p)) None) ≡ option_map alone (node_in image p)) [
      | true ↦ λ e. h.parts p
      | false ↦ λ e. ap (option_map alone) (sym (h.bounded p (not_above last p e)))
    ] refl)

pub laid_below : (image : List (ℕ × Node)) (foreign : BTreeMap ℕ (Option Slot)) (own : ℕ → Option Slot) (least last next p : ℕ) → own ≡ (λ _. None) → Holds image foreign least last next → slot_given next (slot_in last foreign own p) ≡ true
laid_below image foreign own least last next p o h = rw o (
    elim (nat_le p last) as (λ b. slot_given next (cond b (joined (get nat_cmp foreign p)) None) ≡ true) [
      | true ↦ h.below p
      | false ↦ refl
    ])

-- the store over it
nodes_same : (o : Option Slot) → option_map (λ (g : Page). g.node) (option_map page_of o) ≡ option_map (λ (x : Slot). node_of x.page) o
nodes_same None = refl
nodes_same (Some x) = refl

pub image_is : (image : List (ℕ × Node)) (listed roots : List (Key × ℕ)) (slots : ℕ → Option Slot) (log : List Undo) (unreadable : List ℕ) (mark next : ℕ) (given : ℕ → Bool) → log ≡ [] → unreadable ≡ [] →
    ((p : ℕ) → option_map (λ (x : Slot). node_of x.page) (slots p) ≡ node_in image p) → ((name : Key) → roots_of roots name ≡ root_in listed name) → all_numbers given image ≡ true → list_all (λ r. given r.1) listed ≡ true →
    IsImage image listed mark (meaning (table slots (roots_of roots) false) log 0 0 unreadable mark true given next)
image_is image listed roots slots log unreadable mark next given l u nodes rooted g r = rw (l, u) (record {
  pages = λ p. nodes_same (slots p) ∙ nodes p;
  rooted = rooted;
  in_group = refl;
  recent = refl;
  actions = refl;
  faults = refl;
  readable = λ p. refl;
  marked = refl;
  recovered = refl;
  given = g;
  roots_given = r;
})
