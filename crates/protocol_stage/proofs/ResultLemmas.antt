-- What holds of an answer that is Ok.
use Rattle.std.proofs.Common.{Ok, Err, Result}
use Rattle.std.specs.Prelude.{IfOk, OnOk}

pub if_ok_weaker : {X Y : Type 0} (P Q : X → Type 0) (r : Result X Y) → ((x : X) → P x → Q x) → IfOk r P → IfOk r Q
if_ok_weaker P Q (Ok x) f h = f x h
if_ok_weaker P Q (Err e) f h = tt

-- the same from what holds of the value, and three facts that hold of an answer that is Ok
pub if_ok_all : {X Y A B C : Type 0} (P Q : X → Type 0) (r : Result X Y) → ((x : X) → P x → A → B → C → Q x) → IfOk r P → OnOk r A → OnOk r B → OnOk r C → IfOk r Q
if_ok_all P Q (Ok x) f p a b c = f x p a b c
if_ok_all P Q (Err e) f p a b c = tt
