pub mod WhyReply
