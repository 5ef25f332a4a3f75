use Rattle.std.proofs.Common.{ℕ, sym, subst, nat_cmp}
use Rattle.jp_types.specs.declared.command.Reply.{Reply}
use Rattle.kv_service.specs.Ascending.{IsAscending}
use Rattle.kv_service.proofs.Places.{ascending_none}
use Rattle.kv_service.proofs.state.Clients.new.Goals as goal

pub invariant_of-result : goal.invariant_of-result
invariant_of-result c = subst (IsAscending {X = ℕ × Reply} nat_cmp) (sym c.new.ensures.items) (ascending_none (ℕ × Reply) nat_cmp)
