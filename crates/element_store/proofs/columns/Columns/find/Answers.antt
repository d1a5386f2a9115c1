use Rattle.element_store.proofs.SlotFacts.{slot_absent, slot_found}
use Rattle.element_store.proofs.columns.Columns.find.Goals as goal

pub returns-in-Some : goal.returns-in-Some
returns-in-Some c = slot_found c.args.self.now c.args.property c.in-Some.place c.get.result c.in-Some.ensures c.get.ensures

pub returns-in-None : goal.returns-in-None
returns-in-None c = slot_absent c.args.self.now c.args.property c.in-None.ensures
