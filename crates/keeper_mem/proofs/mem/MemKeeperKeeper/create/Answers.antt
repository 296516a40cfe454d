use Rattle.keeper_mem.proofs.Sound.{creating_sound}
use Rattle.keeper_mem.proofs.mem.MemKeeperKeeper.create.Goals as goal

pub invariant_of-self-2 : goal.invariant_of-self-2
invariant_of-self-2 c = creating_sound c.create_in.result c.args.coll.now _ _ c.self.inside.last_tx c.args.most c.create_in.ensures.answers c.create_in.ensures.done c.create_in.ensures.kept c.self.invariant
