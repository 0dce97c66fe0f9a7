-- One page seals one tag and one block: the names under which the crates above know these facts of the specification.
pub use Rattle.ufs_spec.proofs.SealedPages.{body_opened, one_body, one_tag, tag_opened}
