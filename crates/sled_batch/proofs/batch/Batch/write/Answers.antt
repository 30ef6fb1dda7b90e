use Rattle.std.proofs.Common.{◌∙◌, ◌≡◌, OnOk, sym, subst, rules}
use Rattle.std.specs.BTreeMap.{insert_entry}
use Rattle.std.specs.FinMap.Entries.{put}
use Rattle.sled_nodes.specs.Order.{key_cmp}
use Rattle.sled_batch.specs.Batch.{Rises}
use Rattle.sled_batch.proofs.Writing.{inserted, rises_on}
use Rattle.sled_batch.proofs.batch.Batch.write.Goals.{in-Ok, in-Err}
use Rattle.sled_batch.proofs.batch.Batch.write.Goals as goal

pub invariant_of-self : goal.invariant_of-self
unfolding key_cmp
invariant_of-self c = elim c.match-insert.branch [
  | in-Ok w ↦
      let e : c.insert.new.self.entries ≡ insert_entry key_cmp c.args.self.now c.args.key c.args.value = search rules in
      rises_on c.args.self.now c.insert.new.self.entries c.args.key c.args.value (search rules) (e ∙ inserted key_cmp c.args.self.now c.args.key c.args.value)
  | in-Err w ↦
      let e : c.insert.new.self.entries ≡ c.args.self.now = search rules in
      subst Rises (sym e) (search rules)
]

pub returns-clause-ok : goal.returns-clause-ok
unfolding key_cmp
returns-clause-ok c = elim c.match-insert.branch [
  | in-Ok w ↦
      let e : c.insert.new.self.entries ≡ insert_entry key_cmp c.args.self.now c.args.key c.args.value = search rules in
      let is : c.insert.new.self.entries ≡ put key_cmp c.args.key c.args.value c.args.self.now = e ∙ inserted key_cmp c.args.self.now c.args.key c.args.value in
      subst (λ r. OnOk r (c.insert.new.self.entries ≡ put key_cmp c.args.key c.args.value c.args.self.now)) (sym w.result-is) is
  | in-Err w ↦ search rules
]
