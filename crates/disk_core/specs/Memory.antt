-- What a disk in memory keeps, and what a crash makes of it.
use Rattle.std.specs.Prelude.{◌≡◌, ◌⊎◌, ◌<◌, ℕ, ◌+◌, List, [], ◌∷◌, ◌++◌, length, drop, replicate, slice_index, Option, Some, None, unwrap_or, refl}
use Rattle.std.proofs.Common.{inl, inr}
use Rattle.std.specs.List.{between}
use Rattle.disk_core.specs.declared.call.Call.{Call}
use Rattle.disk_core.specs.Faults.{IsOneMore}
use Rattle.disk_core.specs.Images.{patched, IsImage, IsStable}
use Rattle.disk_core.specs.Moments.{Elapses}
use Rattle.disk_core.specs.Pairs.{pairwise}

-- Of each byte written since the last sync, `held` has what it held then; `past` has the same for each sync before, and
-- `calls` what the disk was asked for.
pub record Memory : Type 0 where
  pub content : List ℕ
  pub held : List (Option ℕ)
  pub past : List (List (Option ℕ))
  pub calls : List Call
  pub failures : ℕ

-- n bytes, none of them held
abbrev pub none_held : ℕ → List (Option ℕ)
none_held n = replicate n None

-- a disk of zeros
abbrev pub fresh : ℕ → Memory
fresh n = record { content = replicate n 0; held = none_held n; past = []; calls = []; failures = 0 }

-- a byte after a crash: if it was unsynced, the fill, or without one what it held at the last sync
abbrev pub byte_after : Option ℕ → Option ℕ → ℕ → ℕ
byte_after fill None b = b
byte_after fill (Some h) b = unwrap_or fill h

-- the bytes after a crash
abbrev pub crashed : Option ℕ → List (Option ℕ) → List ℕ → List ℕ
crashed fill held content = pairwise (byte_after fill) held content

-- what is held once these bytes, some of them held already, are to be written over
abbrev pub noted : List (Option ℕ) → List ℕ → List (Option ℕ)
noted held content = pairwise (λ h b. Some (unwrap_or h b)) held content

-- what is held once n bytes from an offset on are to be written over
abbrev pub held_over : ℕ → ℕ → List (Option ℕ) → List ℕ → List (Option ℕ)
held_over at n held content = patched at (noted (between at (at + n) held) (between at (at + n) content)) held

-- the synced bytes from before these syncs, the earliest of which comes first, if the synced bytes are now these
abbrev pub synced_before : List (List (Option ℕ)) → List ℕ → List ℕ
synced_before [] synced = synced
synced_before (held ∷ later) synced = crashed None held (synced_before later synced)

-- a stop before one of these syncs might have left this
abbrev pub HadImage : List (List (Option ℕ)) → List ℕ → List ℕ → Type 0
HadImage [] synced c = ⊥
HadImage (held ∷ later) synced c = IsImage (synced_before later synced) held c ⊎ HadImage later synced c

-- a stop since that moment might have left this
abbrev pub HadSince : Memory → ℕ → List ℕ → Type 0
HadSince d t c = IsImage d.content d.held c ⊎ HadImage (drop t d.past) (crashed None d.held d.content) c

-- The disk grows older: what a stop at some moment might have left stays, and what it may leave now is added.
abbrev pub Ages : Memory → Memory → Type 0
Ages old new = Elapses (length old.past) (length new.past) (HadSince old) (HadSince new) (IsImage new.content new.held)

-- of the first n bytes, those that are not unsynced are the same
abbrev pub IsSameTo : ℕ → List ℕ → List (Option ℕ) → List ℕ → Type 0
IsSameTo n content held image = (i : ℕ) → i < n → IsStable held i → slice_index image i ≡ slice_index content i

-- after a crash that leaves these bytes: nothing is unsynced, and the clock starts anew
abbrev pub restarted_with : List ℕ → Memory → Memory
restarted_with image d = record d { content = image; held = none_held (length d.content); past = []; calls = [] }

-- after a crash that fills what was unsynced, or puts it back
abbrev pub after_crash : Option ℕ → Memory → Memory
after_crash fill d = restarted_with (crashed fill d.held d.content) d

-- once it has been asked for a call
abbrev pub called : Call → Memory → Memory
called call d = record d { calls = d.calls ++ call ∷ [] }

-- once these bytes are written, and so unsynced
abbrev pub written : ℕ → List ℕ → Memory → Memory
written at bytes d = record d { content = patched at bytes d.content; held = held_over at (length bytes) d.held d.content }

-- once all is stable
abbrev pub synced : Memory → Memory
synced d = record d { held = none_held (length d.content); past = d.past ++ d.held ∷ [] }

-- A call did this much and failed: it is counted as a failure, and may be among the calls.
pub record Fails (call : Call) (done now : Memory) : Type 0 where
  pub is : now ≡ record done { calls = now.calls; failures = now.failures }
  pub recorded : (now.calls ≡ done.calls) ⊎ (now.calls ≡ done.calls ++ call ∷ [])
  pub counted : IsOneMore done.failures now.failures

none_had : (past : List (List (Option ℕ))) (synced c : List ℕ) → HadImage (drop (length past) past) synced c → ⊥
none_had [] synced c had = had
none_had (held ∷ past) synced c had = none_had past synced c had

-- since now there are none but now's
pub only_now : (d : Memory) (c : List ℕ) → HadSince d (length d.past) c → IsImage d.content d.held c
only_now d c (inl now) = now
only_now d c (inr had) = absurd (none_had d.past (crashed None d.held d.content) c had)

pub reads_image : (d : Memory) → IsImage d.content d.held d.content
reads_image d = record { size = refl; stable = λ i stable. refl }
