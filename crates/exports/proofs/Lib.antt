pub mod FeedLaws
pub mod FitsLaws
pub mod SenderLaws
pub mod ReplyLaws
pub mod SenderRunLaws
pub mod OnlyLaws
pub mod VerdictLaws
pub mod KeptLaws
