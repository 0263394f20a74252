-- What the regions of a policy tell, in the policy's own words: for callers that have a policy and its regions.
use Rattle.std.proofs.Common.{◌≡◌, ℕ, ◌<◌, List, [], length, map, None, Some, slice_get, ◌∙◌, ap, get_or}
use Rattle.std.proofs.lemmas.List.{get_or-map, length-map}
use Rattle.std.proofs.lemmas.Option.{slice_get_within}
use Rattle.vr_policy_read.specs.declared.entries.Identity.{Identity}
use Rattle.vr_policy_read.specs.declared.entries.Program.{Program}
use Rattle.vr_pipe.specs.declared.trees.Tree.{Tree}
use Rattle.vr_pipe.specs.Trees.{pipe_tree}
use Rattle.vr_policy_check.specs.Rules.{CheckedData}
use Rattle.vr_rights.specs.Calls.{HasHolder, word_of}
use Rattle.vr_rights.specs.Quotas.{quota_of}
use Rattle.vr_rights.specs.Tables.{RegionsData, IsRegionsOf, HasEntry, entry_of}
use Rattle.vr_rights.specs.Words.{word_in, missing_program}
use Rattle.vr_rights.specs.declared.regions.Holder.TheVariants as holders
use Rattle.vr_rights.proofs.ZipLemmas.{mapped_at}

-- a word of the row that a table has for each holder
row_word : {X : Type 0} (grants_of : X → List (List ℕ × ℕ)) (names : List (List ℕ)) (holders : List X) (table : List (List ℕ)) (place region : ℕ) (holder : X)
    → table ≡ map (λ x. map (λ name. word_in name (grants_of x)) names) holders → slice_get holders place ≡ Some holder → region < length names
    → get_or (get_or table place []) region 0 ≡ word_in (get_or names region []) (grants_of holder)
row_word grants_of names holders table place region holder same e l =
    ap (λ t. get_or (get_or t place []) region 0) same
    ∙ ap (λ row. get_or row region 0) (mapped_at (λ x. map (λ name. word_in name (grants_of x)) names) holders place holder [] e)
    ∙ get_or-map (λ name. word_in name (grants_of holder)) names region [] 0 l

module _ (checked : CheckedData) (regions : RegionsData) (h : IsRegionsOf checked regions) where
  -- places of the policy are places of the tables
  pub has_identity : (place : ℕ) → place < length checked.policy.identities → HasHolder regions (holders.Identity place)
  has_identity place l = rw (ap (λ (r : RegionsData). length r.identities) h.tables, length-map) l

  pub has_program : (place : ℕ) → place < length checked.policy.programs → HasHolder regions (holders.Program place)
  has_program place l = rw (ap (λ (r : RegionsData). length r.programs) h.tables, length-map) l

  row_of_missing : (identity : ℕ) (listed : Identity) → slice_get checked.policy.identities identity ≡ Some listed → get_or regions.missing identity [] ≡ map (λ (pipe : Tree). missing_program listed.grants (pipe_tree pipe)) checked.pipes
  row_of_missing identity listed e = ap (λ (r : RegionsData). get_or r.missing identity []) h.tables
      ∙ mapped_at (λ (i : Identity). map (λ (pipe : Tree). missing_program i.grants (pipe_tree pipe)) checked.pipes) checked.policy.identities identity listed [] e

  pub has_entry : (identity pipeline : ℕ) (listed : Identity) → slice_get checked.policy.identities identity ≡ Some listed → pipeline < length checked.pipes → HasEntry regions.missing identity pipeline
  has_entry identity pipeline listed e l = record {
    in_table = rw (ap (λ (r : RegionsData). length r.missing) h.tables, length-map) (slice_get_within checked.policy.identities identity listed e);
    in_row = rw (row_of_missing identity listed e, length-map) l;
  }

  -- the word of a holder in a region
  pub word_of_identity : (place region : ℕ) (identity : Identity) → slice_get checked.policy.identities place ≡ Some identity → region < length regions.names
      → word_of regions (holders.Identity place) region ≡ word_in (get_or regions.names region []) identity.grants
  word_of_identity place region identity e l =
      row_word (λ (i : Identity). i.grants) regions.names checked.policy.identities regions.identities place region identity (ap (λ (r : RegionsData). r.identities) h.tables) e l

  pub word_of_program : (place region : ℕ) (program : Program) → slice_get checked.policy.programs place ≡ Some program → region < length regions.names
      → word_of regions (holders.Program place) region ≡ word_in (get_or regions.names region []) program.grants
  word_of_program place region program e l =
      row_word (λ (p : Program). p.grants) regions.names checked.policy.programs regions.programs place region program (ap (λ (r : RegionsData). r.programs) h.tables) e l

  -- the first program of a pipeline that an identity may not execute
  pub missing_of : (identity pipeline : ℕ) (listed : Identity) (pipe : Tree) → slice_get checked.policy.identities identity ≡ Some listed → slice_get checked.pipes pipeline ≡ Some pipe
      → entry_of regions.missing identity pipeline None ≡ missing_program listed.grants (pipe_tree pipe)
  missing_of identity pipeline listed pipe e f =
      ap (λ row. get_or row pipeline None) (row_of_missing identity listed e)
      ∙ mapped_at (λ (p : Tree). missing_program listed.grants (pipe_tree p)) checked.pipes pipeline pipe None f

  -- the quota of a region
  pub quota_of_region : (region : ℕ) → region < length regions.names → get_or regions.quotas region None ≡ quota_of (get_or regions.names region []) checked.policy.quotas
  quota_of_region region l = ap (λ (r : RegionsData). get_or r.quotas region None) h.tables ∙ get_or-map (λ name. quota_of name checked.policy.quotas) regions.names region [] None l
