pub mod ReadLaws
pub mod MergeLaws
pub mod MendLaws
pub mod OldLaws
pub mod FreeLaws
pub mod UnsureLaws
pub mod OnFolder
