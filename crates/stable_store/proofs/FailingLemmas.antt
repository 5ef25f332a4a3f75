-- How a disk that remembers goes on from one moment to the next.
use Rattle.std.proofs.Common.{◌≡◌, ◌⊎◌, inl, inr, ⊎_elim, ℕ, zero, suc, ◌+◌, ◌≤◌, true, List, [], ◌∷◌, ◌++◌, length, drop, refl, sym, ◌∙◌, ap, subst, arith, length-append}
use Rattle.stable_store.specs.Disks.{overwritten, TornFrom, Elapses}
use Rattle.stable_store.specs.Failing.{Moment, Failing, MayLeave, MightHaveLeft, LeftSince}
use Rattle.stable_store.proofs.DiskLemmas.{torn_to}

keeps : (past : List Moment) (moment : Moment) (image : List ℕ) → MightHaveLeft past image → MightHaveLeft (past ++ moment ∷ []) image
keeps [] moment image had = absurd had
keeps (m ∷ past) moment image (inl here) = inl here
keeps (m ∷ past) moment image (inr there) = inr (keeps past moment image there)

newest : (past : List Moment) (moment : Moment) (image : List ℕ) → MayLeave moment image → MightHaveLeft (past ++ moment ∷ []) image
newest [] moment image is = inl is
newest (m ∷ past) moment image is = inr (newest past moment image is)

adds : (past : List Moment) (moment : Moment) (image : List ℕ) → MightHaveLeft (past ++ moment ∷ []) image → MightHaveLeft past image ⊎ MayLeave moment image
adds [] moment image (inl here) = inr here
adds [] moment image (inr none) = absurd none
adds (m ∷ past) moment image (inl here) = inl (inl here)
adds (m ∷ past) moment image (inr there) = ⊎_elim (λ had. inl (inr had)) (λ new. inr new) (adds past moment image there)

drop_push : (t : ℕ) (past : List Moment) (moment : Moment) → t ≤ length past → drop t (past ++ moment ∷ []) ≡ drop t past ++ moment ∷ []
drop_push zero past moment le = refl
drop_push (suc t) [] moment le = absurd (omega arith)
drop_push (suc t) (m ∷ past) moment le = drop_push t past moment (omega arith)

pub elapses_on : (old new : Failing) → new.past ≡ old.past ++ old.present ∷ [] → Elapses true (length old.past) (length new.past) (LeftSince old) (LeftSince new) (MayLeave new.present)
elapses_on old new is = record {
  later = omega (arith, ap length is, length-append old.past (old.present ∷ []));
  nothing_else = λ t image le left. ⊎_elim (λ now. inr now) (λ had. inl (was image t (adds (drop t old.past) old.present image (subst (λ (l : List Moment). MightHaveLeft l image) (rest t le) had)))) left;
  keeps = λ remembers t image le left. inr (subst (λ (l : List Moment). MightHaveLeft l image) (sym (rest t le)) (⊎_elim (newest (drop t old.past) old.present image) (keeps (drop t old.past) old.present image) left));
}
  where
    rest : (t : ℕ) → t ≤ length old.past → drop t new.past ≡ drop t old.past ++ old.present ∷ []
    rest t le = ap (λ (l : List Moment). drop t l) is ∙ drop_push t old.past old.present le

    was : (image : List ℕ) (t : ℕ) → MightHaveLeft (drop t old.past) image ⊎ MayLeave old.present image → LeftSince old t image
    was image t (inl had) = inr had
    was image t (inr now) = inl now

-- a write that is done
abbrev pub written : ℕ → List ℕ → Moment → Moment
written at piece moment = record { bytes = overwritten at piece moment.bytes; synced = moment.synced; written = (at, length piece) ∷ moment.written }

write_images_at : (old : Moment) (at : ℕ) (piece : List ℕ) → at + length piece ≤ length old.bytes → (image : List ℕ) → MayLeave (written at piece old) image → TornFrom at (length piece) (MayLeave old) image
write_images_at old at piece fits image (inl now) = (old.bytes, inl refl, torn_to at piece old.bytes image fits now)
write_images_at old at piece fits image (inr torn) = (torn.0, inr torn.1, torn.2)

pub write_images : (old new : Moment) (at : ℕ) (piece : List ℕ) → at + length piece ≤ length old.bytes → new ≡ written at piece old → (image : List ℕ) → MayLeave new image → TornFrom at (length piece) (MayLeave old) image
write_images old new at piece fits is image left = write_images_at old at piece fits image (subst (λ (m : Moment). MayLeave m image) is left)
