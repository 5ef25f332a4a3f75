-- A call of the door from its parts.
use Rattle.std.proofs.Common.{◌≡◌, Bool, true, Some, Result, Ok, Err, IfOk, refl, sym, subst}
use Rattle.jp_types.specs.declared.memory.NoMemory.{NoMemory}
use Rattle.client_io.specs.declared.door_turn.DoorTurn.{DoorTurn}
use Rattle.client_io.specs.Doors.{Admits, Begins, IsNew, ServesNext, Stage, Turned, let_go}
use Rattle.client_io.specs.Links.{LinkState}

-- a session began on a link that was accepted
pub begun_admits : (s old new : Stage) (link : LinkState) → IsNew link → Begins old link new → old ≡ s → Admits s true new
begun_admits s old new link fresh b is = subst (λ (x : Stage). Admits x true new) is (record {
  found = Some b.session;
  accepted = (subst IsNew (sym b.opens.has_link) fresh, record { has_number = b.opens.has_number; has_link = refl; unread = b.opens.unread; silent = b.opens.silent });
  told = refl;
  stage = b.stage;
})

-- a link was accepted or none was, and then the session in turn was served
pub turned_ok : (s begun new : Stage) (came : Bool) (result : Result DoorTurn NoMemory) → Admits (let_go s) came begun
    → IfOk result (λ turn. ServesNext begun.sessions begun came turn new) → IfOk result (λ turn. Turned s turn new)
turned_ok s begun new came (Err e) admits serves = tt
turned_ok s begun new came (Ok turn) admits serves = record { came = came; begun = begun; admits = admits; serves = serves }
