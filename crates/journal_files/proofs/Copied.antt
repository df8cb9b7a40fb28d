-- What a copy is while it is made.
use Rattle.std.proofs.Common.{inl, inr, ⊎_elim, ℕ, List}
use Rattle.broker_core.specs.States.{State}
use Rattle.recover_core.specs.Standing.{Stands}
use Rattle.area_core.specs.Making.{IsMaking}
use Rattle.journal_files.specs.Copies.{IsCopy}

-- a journal that stands for the state that the content stands for is a copy
pub copying : (content before : List ℕ) (s : State) (c : List ℕ) → Stands content s → IsMaking before (λ d. Stands d s) c → IsMaking before (IsCopy content) c
copying content before s c stands making =
    ⊎_elim (λ unnaming. inl unnaming) (λ named. inr (⊎_elim (λ other. inl other) (λ made. inr (s, stands, made)) named)) making
